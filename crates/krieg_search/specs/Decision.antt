-- Whether some plan mates, as the search finds it.
use Rattle.std.specs.Prelude.{◌≡◌, ℕ, suc, ◌+◌, ◌<◌, ◌≤◌, Bool, true, false, not, List, [], map, find, Option, Some, None, IfSome, Result, Ok, Err, ⊤}
use Rattle.std.specs.List.{list_any}
use Rattle.krieg_board.specs.Pos.{Pos}
use Rattle.krieg_board.specs.declared.men.Side.{Side}
use Rattle.krieg_words.specs.declared.dialects.Dialect.{Dialect}
use Rattle.krieg_theory.specs.Sets.{In}
use Rattle.krieg_theory.specs.Can.{can}
use Rattle.krieg_theory.specs.Plans.{is_over, can_plan}
use Rattle.krieg_pack.specs.Order.{position_lt}
use Rattle.krieg_costs.specs.Sums.{IsOnce}
use Rattle.krieg_costs.specs.Cost.{first_made}
use Rattle.krieg_costs.specs.Reach.{reach_of, fresh}
use Rattle.krieg_costs.specs.Backing.{floor}
use Rattle.krieg_accounts.specs.Stored.{stored, pairs}
use Rattle.krieg_accounts.specs.Sound.{Table, IsSound}
use Rattle.krieg_accounts.specs.Charges.{charged}
use Rattle.krieg_accounts.specs.Stretch.{IsStretch, CoversSets}
use Rattle.krieg_accounts.specs.Answers as accounts
use Rattle.krieg_accounts.specs.Answers.{AnswersPlan}
use Rattle.krieg_game.specs.Chess.{chess}
use Rattle.krieg_game.specs.Outset.{outset}
use Rattle.krieg_game.specs.ClassLaws.{opening_sets}
use Rattle.krieg_table.specs.SetRows.{SetRows, set_at}
use Rattle.krieg_table.specs.Entries.{entries}
use Rattle.krieg_search.specs.declared.openings.Opening.{Opening}
use Rattle.krieg_search.specs.declared.decide.Outlook.{Outlook}
use Rattle.krieg_search.specs.declared.decide.Findings.{Findings}
use Rattle.krieg_search.specs.declared.decide.Decision.{Decision}
use Rattle.krieg_search.specs.declared.decide.Decision.TheVariants.{Over, Lost, Won}
use Rattle.krieg_search.specs.declared.stop.SearchStop.{SearchStop}
use Rattle.krieg_search.specs.declared.stop.SearchStop.TheVariants.{Spent, Large, NoMemory}
use Rattle.krieg_search.specs.Stretches.{AreCounted, IsReady, TellsSets}
use Rattle.krieg_search.specs.Openings.{AreNumbered, opening_in}
use Rattle.krieg_search.specs.WonSets.{WonBy, WinsAreBelow}
use Rattle.krieg_search.specs.Notes.{AreNotes, notes_in}

-- the sets of openings
abbrev pub sets_in : SetRows → List Opening → List (List Pos)
sets_in T os = map (λ o. set_at T o.set) os

-- at most so many notes are kept
abbrev pub AreFewNotes : Decision → ℕ → Type 0
AreFewNotes Over most = ⊤
AreFewNotes (Lost w) most = notes_in w.notes.rows ≤ most
AreFewNotes (Won w) most = notes_in w.notes.rows ≤ most

-- where the search may cut tries, no block of a try is stored for certain, and what was taken has no floor
module _ (d : Dialect) (who : Side) (S : List Pos) (n : ℕ) where
  -- Each opening that occurs has its set in the table, which says whether all of these can be won. Once the first replies were
  -- taken, that was a stretch from the empty table.
  pub record IsAsked (cut : Bool) (T : SetRows) (a : Outlook) (had has : ℕ) : Type 0 where
    pub none_over : list_any (is_over (chess d) (outset d who)) S ≡ false
    pub counted : AreCounted T
    pub numbered : AreNumbered T a.openings.items
    pub sets : map (opening_in T) a.openings.items ≡ opening_sets d who S
    pub tells : TellsSets d T (accounts.opening_sets (chess d) (outset d who) S) n a.all_win
    pub left : ℕ
    pub taken : left + first_made (chess d) (outset d who) S ≡ had
    pub stretch : IsStretch (chess d) cut (CoversSets (chess d) (accounts.opening_sets (chess d) (outset d who) S) n) 0
        [] (entries T) left has

  -- the same, or some listed position is over, or units or memory were wanting
  abbrev pub IsAsking : Bool → SetRows → Result (Option Outlook) SearchStop → ℕ → ℕ → Type 0
  IsAsking cut T (Ok None) had has =
      (list_any (is_over (chess d) (outset d who)) S ≡ true) × (has + first_made (chess d) (outset d who) S ≡ had)
  IsAsking cut T (Ok (Some a)) had has = IsAsked cut T a had has
  IsAsking cut T (Err Spent) had has = (had < fresh (chess d) (outset d who) n S) × (has ≤ had)
  IsAsking cut T (Err Large) had has = ⊥
  IsAsking cut T (Err NoMemory) had has = has ≤ had

  -- What was taken, result by result. Each result is of a set with a number of moves, no two are of the same, and all of
  -- these are reached. The results are right, and tell whether some plan mates. What was taken is what the first replies
  -- take, and for each result the splits of its tries up to the first that wins. Where tries may be cut it is at most that,
  -- since a try that is cut takes nothing, and neither does a set that is found to be lost before any try.
  pub record IsAccount (cut : Bool) (had has : ℕ) : Type 0 where
    pub results : Table (chess d)
    pub sound : IsSound (chess d) cut results
    pub answer : AnswersPlan (chess d) (outset d who) results n S
    pub once : IsOnce (pairs results)
    pub reached : (q : List Pos × ℕ) → In q (pairs results) → In q (reach_of (chess d) (outset d who) n S)
    pub exact : cut ≡ false → had ≡ has + first_made (chess d) (outset d who) S + charged (chess d) results
    pub at_most : had ≤ has + first_made (chess d) (outset d who) S + charged (chess d) results
    pub fewer : has ≤ had

  -- at least the floor and at most what is fresh was taken
  pub record IsBetween (had has : ℕ) : Type 0 where
    pub at_least : has + floor (chess d) (outset d who) n S ≤ had
    pub at_most : had ≤ has + fresh (chess d) (outset d who) n S

  -- the results are right and paid for, each opening that occurs has its set in the table, and the notes are right
  pub record IsFound (cut : Bool) (w : Findings) (had : ℕ) : Type 0 where
    pub ready : IsReady d cut w.table
    pub paid : cut ≡ false → charged (chess d) (entries w.table) ≤ had
    pub wins : WinsAreBelow d (suc had) w.table
    pub numbered : AreNumbered w.table w.openings.items
    pub sets : map (opening_in w.table) w.openings.items ≡ opening_sets d who S
    pub noted : AreNotes d cut w.table w.notes

  -- no listed position is over, and the first opening set that cannot be won within n is stored as such
  pub record IsLost (cut : Bool) (w : Findings) (had : ℕ) : Type 0 where
    pub cannot : can_plan (chess d) (outset d who) n S ≡ false
    pub none_over : list_any (is_over (chess d) (outset d who)) S ≡ false
    pub found : IsFound cut w had
    pub lost : IfSome (find (λ C. not (can (chess d) n C)) (sets_in w.table w.openings.items)) (λ C. 0 < n → stored position_lt (entries w.table) (C, n) ≡ Some None)

  -- each opening set is stored as won
  pub record IsWon (cut : Bool) (w : Findings) (had : ℕ) : Type 0 where
    pub can : can_plan (chess d) (outset d who) n S ≡ true
    pub found : IsFound cut w had
    pub won : (C : List Pos) → In C (sets_in w.table w.openings.items) → WonBy w.table C n

  -- whether some plan mates; an account that adds up takes no more than there is, and after an error no units are new
  abbrev pub IsDecision : Bool → Result Decision SearchStop → ℕ → ℕ → Type 0
  IsDecision cut (Ok Over) had has = (list_any (is_over (chess d) (outset d who)) S ≡ true) × (can_plan (chess d) (outset d who) n S ≡ false) × IsAccount cut had has
  IsDecision cut (Ok (Lost w)) had has = IsLost cut w had × IsAccount cut had has
  IsDecision cut (Ok (Won w)) had has = IsWon cut w had × IsAccount cut had has
  IsDecision cut (Err Spent) had has = (had < fresh (chess d) (outset d who) n S) × (has ≤ had)
  IsDecision cut (Err Large) had has = ⊥
  IsDecision cut (Err NoMemory) had has = has ≤ had

-- A run on an input that must be answered ends with an answer, or for want of memory.
use Rattle.std.proofs.Common.{◌≡◌, Bool, ◌⊎◌, inl, inr, ℕ, ◌<◌, ◌≤◌, true, false, List, [], ◌∷◌, ◌++◌, length, drop, map, Option, Some, Result, Ok, Err, refl, sym, ap, subst, ◌∙◌, arith}
use Rattle.std.specs.Prelude.{MatchBool}
use Rattle.std.proofs.lemmas.Bool.{both_ways}
use Rattle.std.proofs.Math.Seq.{drop-append_seam, drop-length}
use Rattle.krieg_cli.proofs.Common.{JudgedSo, Pos, White, Black, SheetState, san_of, unsan_of, is_nil, made_sheet, Line, Account, Team, Turns, Service, BrokenCourse, HasFailed, entry_of, now_of, Sides, takes_input, Command, Solve, Check, Refute, Deny, Believe, Why, Umpire, San, Unsan, Play, Lead, Next, Find, Keys, Share, Judge, Advise, Conduct, Make, Job, World, FaultsRose, WasRead, OfText, status, Leaves, has_no_turn, OfPossible, Claimed, Keyed, SharedBy, Judged, told_text, Believed, Shows, Guidance, guided, plan_guide, strategy_guide, PlaysFrom, PlaysWhole, LeadsFrom, LeadsWhole, Says, LivesBy, Plans, Summarizes, LiveOutcome, HasOutcome, ComesTo, Ends, Runs, CanBeJudged, CanBeDenied, CanBeChecked, CanBeShown, CanBeSummed, HoldsText, MustAnswer, NoneFailed, seats_since, CanPlay, BenchHolds, Completes, Refusal, Ending, MOST_INPUT, Side, Dialect, is_over, Search, Searches, OfSheet, Searched, CanBeSearched, PlanFits, KeysFit, StrategyFits, ClaimsFit, fresh_units}
use Rattle.krieg_belief.proofs.Prefixes.{excess_not_within}
use Rattle.krieg_outcome.specs.Check.{Checked}
use Rattle.krieg_outcome.specs.Find.{Found}
use Rattle.krieg_outcome.specs.declared.refusal.Refusal.TheVariants as refusal
use Rattle.krieg_outcome.specs.declared.ending.Ending.TheVariants as ending
use Rattle.krieg_cli.proofs.WholeGames.{text_read, given_le, not_refused}
use Rattle.krieg_outcome.proofs.Searching.{one_list}

-- ---- solve, find, keys, share and refute

-- a sheet of which something is asked is refused nothing, where a search of what it leaves possible is not
module _ (limit : ℕ) (s : SheetState) (rests : Bool) (By : List Pos → Result (List ℕ) Refusal → Type 0) (S : List Pos) (leaves : Leaves limit s S) (goes : rests ≡ false) (answers : (r : Refusal) → By S (Err r) → ⊥) where
  asking : (r : Refusal) → OfPossible limit s rests By (Err r) → ⊥
  asking (refusal.TooMany line) h = excess_not_within s limit line h leaves.within
  asking refusal.NonePossible h = both_ways (is_nil S) leaves.some (ap (λ T. is_nil T) (one_list s S [] leaves.possible h.0))
  asking refusal.NotThePlayersTurn h = both_ways rests goes h.2
  asking r (T, other, go, h) = answers r (subst (λ T. By T (Err r)) (one_list s T S other.possible leaves.possible) h)

-- so it is of a text that can be searched
searching : (By : Search) (rests : SheetState → Bool) (Fits : Dialect → Side → List Pos → ℕ → Type 0) (n budget limit : ℕ) (text : List ℕ) →
    ((d : Dialect) (who : Side) (S : List Pos) → fresh_units d who S n ≤ budget → Fits d who S n → (r : Refusal) → By d who S n budget (Err r) → ⊥) →
    (can : CanBeSearched rests Fits n budget limit text) (r : Refusal) → Searches By rests n budget limit text (Err r) → ⊥
searching By rests Fits n budget limit text answers can r h =
    asking limit can.sheet (rests can.sheet) (λ S. By can.sheet.dialect can.sheet.side S n budget) can.positions can.leaves can.goes_on
    (answers can.sheet.dialect can.sheet.side can.positions can.enough can.fits) r
    (subst (λ x. OfText x (OfSheet By rests n budget limit) (Err r)) can.spelled h)

module _ (n budget : ℕ) (d : Dialect) (who : Side) (S : List Pos) (enough : fresh_units d who S n ≤ budget) where
  solving : PlanFits d who S n → (r : Refusal) → Searched d who S n budget (Err r) → ⊥
  solving fits refusal.BudgetSpent h = omega (arith, h, enough)
  solving fits refusal.PlanTooLarge (least, f, best, large) = fits f best large
  solving fits _ h = h

  finding : PlanFits d who S n → (r : Refusal) → Found d who S n budget (Err r) → ⊥
  finding fits refusal.BudgetSpent h = omega (arith, h, enough)
  finding fits refusal.PlanTooLarge (f, best, large) = fits f best large
  finding fits _ h = h

  keying : KeysFit d who S n → (r : Refusal) → Keyed d who S n budget (Err r) → ⊥
  keying fits refusal.BudgetSpent h = omega (arith, h, enough)
  keying fits _ h = h

  sharing : StrategyFits d who S n → (r : Refusal) → SharedBy d who S n budget (Err r) → ⊥
  sharing fits refusal.BudgetSpent h = omega (arith, h, enough)
  sharing fits refusal.PlanTooLarge h = fits h
  sharing fits _ h = h

  refuting : ClaimsFit d who S n → (r : Refusal) → Claimed d who S n budget (Err r) → ⊥
  refuting fits refusal.BudgetSpent h = omega (arith, h, enough)
  refuting fits refusal.PlanTooLarge h = fits.1 h.1
  refuting fits refusal.PlanExists (least, (plan, mates)) = both_ways _ (fits.0 plan) mates
  refuting fits _ h = h

-- ---- check, judge, deny, believe, and why

checking : (budget : ℕ) (text : List ℕ) (can : CanBeChecked budget text) (r : Refusal) → Checked budget can.file (Err r) → ⊥
checking budget text can refusal.BudgetSpent h = let enough = can.enough in omega (arith, h, enough)
checking budget text can refusal.PlanFails h = both_ways _ h.1 can.mates
checking budget text can _ h = h

judging : (budget : ℕ) (text : List ℕ) (can : CanBeJudged budget text) (r : Refusal) → JudgedSo budget can.strategy (Err r) → ⊥
judging budget text can refusal.BudgetSpent h = let enough = can.enough in omega (arith, h, enough)
judging budget text can refusal.PlanFails h = both_ways _ h.1 can.mates
judging budget text can _ h = h

denying : (budget : ℕ) (text : List ℕ) (can : CanBeDenied budget text) (r : Refusal) → Judged budget can.file (Err r) → ⊥
denying budget text can refusal.BudgetSpent h = let enough = can.enough in omega (arith, h, enough)
denying budget text can refusal.RefutationFails h = both_ways _ h.1 can.holds
denying budget text can _ h = h

believing : (limit : ℕ) (s : SheetState) (r : Refusal) → Believed limit s (Err r) → Rattle.krieg_belief.specs.Limits.AllWithin limit s → ⊥
believing limit s (refusal.TooMany line) h within = excess_not_within s limit line h within
believing limit s _ h within = h

showing : (limit : ℕ) (text : List ℕ) (can : CanBeShown limit text) (r : Refusal) → Shows limit can.sheet (Err r) → ⊥
showing limit text can (refusal.TooMany line) h = excess_not_within can.sheet limit line h can.within
showing limit text can refusal.NonePossible h = can.some h.0
showing limit text can refusal.AnswerTooLong (games, has, long) = let fits = can.fits games has.shown in omega (arith, long, fits)
showing limit text can _ h = h

-- ---- job

summing : (number : ℕ) → CanBeSummed number → (r : Refusal) → Summarizes number (Err r) → ⊥
summing number can r (S, possible, h) = go r (subst (λ S. Plans S (Err r)) (one_list (made_sheet number) S can.positions possible can.possible) h)
  where
    go : (r : Refusal) → Plans can.positions (Err r) → ⊥
    go refusal.BudgetSpent (inl less) = let enough = can.enough in omega (arith, less, enough)
    go refusal.BudgetSpent (inr (f, found, less)) = let enough = can.enough_to_check f found.best in omega (arith, less, enough)
    go refusal.PlanTooLarge (least, f, best, large) = can.fits f best large
    go _ h = h

-- ---- play

-- the seat behind those that were relieved has not failed
not_failed : {X : Type 0} (account : X → Account) (relieved : List (Service X)) (entry now : X) (vain : ℕ) (behind : List X) →
    NoneFailed (map account (map entry_of relieved ++ entry ∷ behind)) (map account (map now_of relieved ++ now ∷ behind)) → HasFailed vain (account entry) (account now) → ⊥
not_failed account [] entry now vain behind none failed = none.0 failed.0
not_failed account (s ∷ ss) entry now vain behind none failed = not_failed account ss entry now vain behind none.1 failed

side_holds : {X : Type 0} (account : X → Account) (entry now : Team X) (ls : List Line) (turns : Turns) → CanPlay account entry now → BrokenCourse account HasFailed entry now ls turns → ⊥
side_holds {X = X} account entry now ls turns can (due, c) =
    let since : seats_since entry now ≡ map now_of c.relieved ++ c.sitting.now ∷ c.behind =
    ap (λ out. drop (length entry.out) out ++ now.seats) c.out_now
    ∙ ap (λ xs. xs ++ now.seats) (drop-append_seam entry.out (map now_of c.relieved))
    ∙ ap (λ xs. map now_of c.relieved ++ xs) c.seats_now in
    not_failed account c.relieved c.sitting.entry c.sitting.now c.sitting.vain c.behind
    (subst (λ (xs : List X). NoneFailed (map account (map entry_of c.relieved ++ c.sitting.entry ∷ c.behind)) (map account xs)) since
    (subst (λ (xs : List X). NoneFailed (map account xs) (map account (seats_since entry now))) c.seats_then can.none_failed))
    c.counts

some_seat : {X : Type 0} (xs : List X) → 0 < length xs → xs ≡ [] → ⊥
some_seat [] h e = omega arith
some_seat (x ∷ xs) h e = cc

playing : {X : Type 0} (account : X → Account) (asks : ℕ) (entry now : Sides X) (start : Pos) (r : Refusal) → CanPlay account entry.white now.white → CanPlay account entry.black now.black →
    PlaysFrom account asks entry now start (Err r) → ⊥
playing account asks entry now start (refusal.NoSeat White) w b h = some_seat entry.white.seats w.some h.0
playing account asks entry now start (refusal.NoSeat Black) w b h = some_seat entry.black.seats b.some h.1
playing account asks entry now start (refusal.SeatFault White) w b h = side_holds account entry.white now.white _ _ w h.breaks.white
playing account asks entry now start (refusal.SeatFault Black) w b h = side_holds account entry.black now.black _ _ b h.breaks.black
playing account asks entry now start _ w b h = h

-- ---- lead and next

leading : {X : Type 0} (account : X → Account) (asks number : ℕ) (entry now : Sides X) (g : Guidance) (r : Refusal) → number ≤ length g.list → CanPlay account entry.white now.white →
    LeadsFrom account asks number entry now g (Err r) → ⊥
leading account asks number entry now g refusal.NoSuchPosition listed w h = let less = h.0 in omega (arith, less, listed)
leading account asks number entry now g (refusal.NoSeat who) listed w h = some_seat entry.white.seats w.some h.1
leading {X = X} account asks number entry now g (refusal.SeatFault who) listed w h =
    let c = h.2 in
    let none_out : drop (length entry.white.out) entry.white.out ≡ [] = drop-length entry.white.out in
    let since : seats_since entry.white now.white ≡ c.seats.first' ∷ c.seats.behind =
    ap (λ out. drop (length entry.white.out) out ++ now.white.seats) c.out
    ∙ ap (λ xs. xs ++ now.white.seats) none_out
    ∙ c.seats.now_is in
    let none : NoneFailed (map account (c.seats.first ∷ c.seats.behind)) (map account (c.seats.first' ∷ c.seats.behind)) =
    subst (λ (xs : List X). NoneFailed (map account (c.seats.first ∷ c.seats.behind)) (map account xs)) since
    (subst (λ (xs : List X). NoneFailed (map account xs) (map account (seats_since entry.white now.white))) c.seats.then_is w.none_failed) in
    none.0 c.seats.changes.is_broken.breaks.counts.0
leading account asks number entry now g _ listed w h = h

-- ---- any command

-- no refusal has a cause
refused : {X : Type 0} (account : X → Account) (entry now : Sides X) (c : Command) (text : List ℕ) (r : Refusal) → HasOutcome (LivesBy account entry now) c text (Err r) → MustAnswer c text →
    BenchHolds account c entry now → ⊥
refused account entry now (Solve n budget limit) text r h can bench = searching Searched is_over PlanFits n budget limit text (solving n budget) can r h
refused account entry now (Find n budget limit) text r h can bench = searching Found is_over PlanFits n budget limit text (finding n budget) can r h
refused account entry now (Keys n budget limit) text r h can bench = searching Keyed is_over KeysFit n budget limit text (keying n budget) can r h
refused account entry now (Share n budget limit) text r h can bench = searching SharedBy is_over StrategyFits n budget limit text (sharing n budget) can r h
refused account entry now (Judge budget) text r h can bench = judging budget text can r (subst (λ x. OfText x (JudgedSo budget) (Err r)) can.spelled h)
refused account entry now (Check budget) text r h can bench = checking budget text can r (subst (λ x. OfText x (Checked budget) (Err r)) can.spelled h)
refused account entry now (Refute n budget limit) text r h can bench = searching Claimed has_no_turn ClaimsFit n budget limit text (refuting n budget) can r h
refused account entry now (Deny budget) text r h can bench = denying budget text can r (subst (λ x. OfText x (Judged budget) (Err r)) can.spelled h)
refused account entry now (Believe limit) text r h can bench = believing limit can.sheet r (subst (λ x. OfText x (Believed limit) (Err r)) can.spelled h) can.within
refused account entry now (Why limit) text r h can bench = showing limit text can r (subst (λ x. OfText x (Shows limit) (Err r)) can.spelled h)
refused account entry now (Umpire who) text r h (s, spelled) bench = not_refused r (told_text s who) (subst (λ x. OfText x (λ session told. told ≡ Ok (told_text session who)) (Err r)) spelled h)
refused account entry now San text r h (s, spelled) bench = not_refused r (san_of s) (subst (λ x. OfText x (λ session written. written ≡ Ok (san_of session)) (Err r)) spelled h)
refused account entry now Unsan text r h (g, spelled) bench = not_refused r (unsan_of g) (subst (λ x. OfText x (λ game written. written ≡ Ok (unsan_of game)) (Err r)) spelled h)
refused account entry now (Play asks) text r h (start, spelled) bench =
    playing account asks entry now start r bench.0 bench.1 (subst (λ x. PlaysWhole account asks entry now x (Err r)) spelled h)
refused account entry now (Lead asks number) text r h (s, spelled, listed) bench =
    leading account asks number entry now (plan_guide s) r listed bench (subst (λ x. LeadsWhole account asks number entry now (guided plan_guide x) (Err r)) spelled h)
refused account entry now Next text r h (heard, spelled) bench = not_refused r _ (subst (λ x. OfText x (Says plan_guide) (Err r)) spelled h)
refused account entry now Advise text r h (heard, spelled) bench = not_refused r _ (subst (λ x. OfText x (Says strategy_guide) (Err r)) spelled h)
refused account entry now (Conduct asks number) text r h (s, spelled, listed) bench =
    leading account asks number entry now (strategy_guide s) r listed bench (subst (λ x. LeadsWhole account asks number entry now (guided strategy_guide x) (Err r)) spelled h)
refused account entry now (Make what number) text r h can bench = not_refused r _ h
refused account entry now (Job number) text r h can bench = summing number can r h

-- a command that takes an input has its text
by_input : {P : Type 0} (Q : Type 0) (takes : Bool) → takes ≡ true → MatchBool takes P Q → P
by_input Q true e h = h
by_input Q false e h = absurd cc

module _ {X : Type 0} (account : X → Account) (entry now : Sides X) (before after : World) (text : List ℕ)
    (no_read_fault : FaultsRose before.input after.input → ⊥) (no_write_fault : FaultsRose before.out after.out → ⊥) where
  abbrev live : LiveOutcome
  live = LivesBy account entry now

  -- the text that was taken is the one that the input holds, or none where no input is taken
  same_text : (read : List ℕ) (takes : Bool) → MatchBool takes ((before.input.bytes ≡ Some text) × (length text ≤ MOST_INPUT)) (text ≡ []) →
      MatchBool takes (WasRead before.input after.input read) ((read ≡ []) × (after.input ≡ before.input)) → read ≡ text
  same_text read true holds was = text_read before.input after.input text read holds.0 was
  same_text read false holds was = was.0 ∙ sym holds

  -- what the command comes to, it comes to on that text
  on_text : (c : Command) (outcome : Result (List ℕ) Refusal) → HoldsText c before.input text → ComesTo live c before after outcome → HasOutcome live c text outcome
  on_text c outcome holds (read, was, made) = subst (λ t. HasOutcome live c t outcome) (same_text read (takes_input c) holds was) made

  ends_well : (e : Ending) (c : Command) → HoldsText c before.input text → MustAnswer c text → BenchHolds account c entry now → Ends live e c before after → (status e ≡ 0) ⊎ (status e ≡ 11)
  ends_well ending.Answered c holds can bench h = inl refl
  ends_well ending.NoMemory c holds can bench h = inr refl
  ends_well ending.TooLong c holds can bench ((takes, (took, consumed, long), kept), out) =
      let input = by_input _ (takes_input c) takes holds in
      let le = given_le before.input.bytes after.input.bytes text took input.0 consumed in
      absurd (omega (arith, long, le, input.1))
  ends_well ending.ReadFault c holds can bench ((takes, came, rose), out) = absurd (no_read_fault rose)
  ends_well ending.WriteFault c holds can bench (answer, comes, front, rose) = absurd (no_write_fault rose)
  ends_well (ending.Refused r) c holds can bench (comes, out) = absurd (refused account entry now c text r (on_text c (Err r) holds comes) can bench)
  ends_well ending.Usage c holds can bench h = absurd h

pub completes : {X : Type 0} (account : X → Account) (entry now : Sides X) (e : Ending) (asked : Option Command) (before after : World) (code : ℕ) → Runs (LivesBy account entry now) e asked before after → code ≡ status e →
    Completes account entry now asked code before after
completes account entry now e asked before after code runs is c text words holds can no_read no_write bench =
    subst (λ n. (n ≡ 0) ⊎ (n ≡ 11)) (sym is)
    (ends_well account entry now before after text no_read no_write e c holds can bench
    (subst (λ x. Runs (LivesBy account entry now) e x before after) words runs))

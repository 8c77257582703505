-- A stretch of the search, over a table in which sets have numbers.
use Rattle.std.specs.Prelude.{◌≡◌, ℕ, ◌<◌, ◌≤◌, ◌^◌, Bool, List, length, map, Result, Ok, Err}
use Rattle.std.specs.List.{list_all}
use Rattle.krieg_board.specs.Pos.{Pos}
use Rattle.krieg_board.specs.declared.men.Move.{Move}
use Rattle.krieg_words.specs.declared.dialects.Dialect.{Dialect}
use Rattle.krieg_theory.specs.Can.{can, begins}
use Rattle.krieg_accounts.specs.Sound.{IsSound}
use Rattle.krieg_accounts.specs.Stretch.{IsStretch, FallsShort}
use Rattle.krieg_accounts.specs.Answers.{AnswersSet, AnswersTry, AnswersSets}
use Rattle.krieg_game.specs.Chess.{chess}
use Rattle.krieg_game.specs.declared.classes.Class.{Class}
use Rattle.krieg_table.specs.SetRows.{SetRows, set_at}
use Rattle.krieg_table.specs.Entries.{entries}
use Rattle.krieg_table.specs.Table.{IsMore, IsInterned}
use Rattle.krieg_search.specs.declared.search.Search.{Search}
use Rattle.krieg_search.specs.declared.stop.SearchStop.{SearchStop}
use Rattle.krieg_search.specs.declared.stop.SearchStop.TheVariants.{Spent, Large, NoMemory}
use Rattle.krieg_search.specs.declared.way.Way.{Way}
use Rattle.krieg_search.specs.Notes.{AreNotes}
use Rattle.krieg_search.specs.Blockers.{AreBlockers}

-- the members of each set can be counted in 64 bits
abbrev pub AreCounted : SetRows → Type 0
AreCounted T = (k : ℕ) → length (set_at T k) < 2 ^ 64

-- the set has that number in the table, and all its sets can be counted
pub record IsNumbered (T T' : SetRows) (B : List Pos) (set : ℕ) : Type 0 where
  pub interned : IsInterned T T' B set
  pub counted : AreCounted T'

-- the sets of classes
abbrev pub sets_of : List Class → List (List Pos)
sets_of cs = map (λ c. c.belief) cs

-- where the search may cut tries, no block of a try is stored for certain
module _ (d : Dialect) (cut : Bool) where
  -- what the search needs of a table, and leaves of it: the results are right and stand on others
  pub record IsReady (T : SetRows) : Type 0 where
    pub counted : AreCounted T
    pub sound : IsSound (chess d) cut (entries T)

  -- From one table and number of units to others. No set has lost its number, and the results and the units are those of
  -- a stretch.
  pub record IsSearched (Q : List (List Pos × ℕ) → Type 0) (cost : ℕ) (T T' : SetRows) (had has : ℕ) : Type 0 where
    pub counted : AreCounted T'
    pub more : IsMore T T'
    pub stretch : IsStretch (chess d) cut Q cost (entries T) (entries T') had has

  -- An answer that holds, with the stretch that led to it; or too few units for it. After an error some units may be gone,
  -- and none are new.
  abbrev pub Stretches : {A : Type 0} → Result A SearchStop → (A → Type 0) → (List (List Pos × ℕ) → Type 0) → ℕ → SetRows → SetRows → ℕ → ℕ → Type 0
  Stretches (Ok x) holds Q cost T T' had has = holds x × IsSearched Q cost T T' had has
  Stretches (Err Spent) holds Q cost T T' had has = FallsShort (chess d) Q cost (entries T) had × (has ≤ had)
  Stretches (Err Large) holds Q cost T T' had has = ⊥
  Stretches (Err NoMemory) holds Q cost T T' had has = has ≤ had

  -- whether the try begins to win the set within j, and that the table has it
  pub record TellsTry (T : SetRows) (B : List Pos) (j : ℕ) (t : Move) (yes : Bool) : Type 0 where
    pub right : yes ≡ begins (chess d) j B t
    pub stored : AnswersTry (chess d) cut (entries T) B j t yes

module _ (way : Way) where
  -- what holds between any two steps of a search: its table is ready, and its notes and what it keeps of blocked tries are right there
  abbrev pub IsAtWork : Search → Type 0
  IsAtWork s = IsReady way.d way.cut s.table × AreNotes way.d way.cut s.table s.notes × AreBlockers way.d way.cut s.table s.blockers

  -- such an answer, from one state of a search to another
  abbrev pub Searches : {A : Type 0} → Result A SearchStop → (A → Type 0) → (List (List Pos × ℕ) → Type 0) → ℕ → Search → Search → Type 0
  Searches r holds Q cost s s' = Stretches way.d way.cut r holds Q cost s.table s'.table s.units s'.units

module _ (d : Dialect) where
  -- whether the set can be won within j, and that the table has it
  pub record TellsSet (T : SetRows) (B : List Pos) (j : ℕ) (yes : Bool) : Type 0 where
    pub right : yes ≡ can (chess d) j B
    pub stored : AnswersSet (chess d) (entries T) B j yes

  -- whether all of the sets can be won within j, and that the table has it
  pub record TellsSets (T : SetRows) (Cs : List (List Pos)) (j : ℕ) (yes : Bool) : Type 0 where
    pub right : yes ≡ list_all (can (chess d) j) Cs
    pub stored : AnswersSets (chess d) (entries T) Cs j yes

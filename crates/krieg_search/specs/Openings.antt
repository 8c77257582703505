-- What may be heard before the first own turn, with the numbers of sets.
use Rattle.std.specs.Prelude.{◌≡◌, ◌<◌, ◌++◌, true, false, List, [], ◌∷◌, length, map, Option, Some, None, Vec}
use Rattle.std.specs.declared.alloc.Global.{Global}
use Rattle.std.specs.List.{list_any}
use Rattle.krieg_board.specs.Pos.{Pos}
use Rattle.krieg_board.specs.declared.men.Side.{Side}
use Rattle.krieg_words.specs.declared.dialects.Dialect.{Dialect}
use Rattle.krieg_theory.specs.Sets.{In}
use Rattle.krieg_theory.specs.Plans.{is_over}
use Rattle.krieg_game.specs.Keys.{RootKey}
use Rattle.krieg_game.specs.Chess.{chess}
use Rattle.krieg_game.specs.Outset.{outset}
use Rattle.krieg_game.specs.ClassLaws.{opening_sets}
use Rattle.krieg_table.specs.SetRows.{SetRows, set_at}
use Rattle.krieg_table.specs.Entries.{entries}
use Rattle.krieg_table.specs.Table.{IsMore}
use Rattle.krieg_search.specs.declared.openings.Opening.{Opening}
use Rattle.krieg_search.specs.Stretches.{AreCounted}

-- sets may have come to the table, and no result
pub record AddsSets (T T' : SetRows) : Type 0 where
  pub counted : AreCounted T'
  pub more : IsMore T T'
  pub noted : entries T' ≡ entries T

-- an opening with its set
abbrev pub opening_in : SetRows → Opening → RootKey × List Pos
opening_in T o = ((o.opens, o.heard), set_at T o.set)

-- the sets of all openings have their numbers in the table
abbrev pub AreNumbered : SetRows → List Opening → Type 0
AreNumbered T os = (o : Opening) → In o os → o.set < length T

-- one opening was added
pub record IsAdded (T T' : SetRows) (os os' : List Opening) (c : RootKey × List Pos) : Type 0 where
  pub sets : AddsSets T T'
  pub numbered : AreNumbered T' os'
  pub one_more : map (opening_in T') os' ≡ map (opening_in T) os ++ c ∷ []

-- the openings are these, with their sets
pub record AreAdded (T T' : SetRows) (os : List Opening) (cs : List (RootKey × List Pos)) : Type 0 where
  pub sets : AddsSets T T'
  pub numbered : AreNumbered T' os
  pub are : map (opening_in T') os ≡ cs

module _ (d : Dialect) (who : Side) (S : List Pos) where
  -- some listed position is over, or the openings are those that occur, each with its set
  abbrev pub IsOpened : SetRows → SetRows → Option (Vec Opening Global) → Type 0
  IsOpened T T' None = list_any (is_over (chess d) (outset d who)) S ≡ true
  IsOpened T T' (Some os) = (list_any (is_over (chess d) (outset d who)) S ≡ false) × AreAdded T T' os.items (opening_sets d who S)

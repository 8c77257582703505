-- What blocks a try, as a stretch of the search finds it.
use Rattle.std.specs.Prelude.{◌≡◌, ℕ, ◌+◌, ◌<◌, ◌≤◌, Bool, true, not, List, length, map, option_map, Option, None, IfSome, Result, find, All}
use Rattle.std.specs.Option.{is_none}
use Rattle.krieg_board.specs.Pos.{Pos}
use Rattle.krieg_board.specs.declared.men.Move.{Move}
use Rattle.krieg_words.specs.declared.dialects.Dialect.{Dialect}
use Rattle.krieg_theory.specs.Split.{legal_in_some}
use Rattle.krieg_theory.specs.Split as theory
use Rattle.krieg_theory.specs.Can.{can}
use Rattle.krieg_costs.specs.Cost.{made}
use Rattle.krieg_accounts.specs.Stretch.{CoversTry}
use Rattle.krieg_game.specs.Keys.{Key}
use Rattle.krieg_game.specs.Chess.{chess}
use Rattle.krieg_game.specs.Classes.{class_pair}
use Rattle.krieg_game.specs.declared.classes.Class.{Class}
use Rattle.krieg_table.specs.SetRows.{SetRows, set_at}
use Rattle.krieg_table.specs.Opened.{IsOpened}
use Rattle.krieg_search.specs.declared.notes.Block.{Block}
use Rattle.krieg_search.specs.declared.search.Asked.{Asked}
use Rattle.krieg_search.specs.declared.search.AtHand.{AtHand}
use Rattle.krieg_search.specs.declared.search.Search.{Search}
use Rattle.krieg_search.specs.declared.stop.SearchStop.{SearchStop}
use Rattle.krieg_search.specs.declared.try_list.Try.{Try}
use Rattle.krieg_search.specs.declared.way.Way.{Way}
use Rattle.krieg_search.specs.Notes.{IsBlock}
use Rattle.krieg_search.specs.Stretches.{Searches, TellsSets, TellsTry, sets_of}
use Rattle.krieg_search.specs.Tries.{IsTold, move_of}

-- the set is open, and these are its tries, with what is told of them where j moves are left
pub record IsAtHand (B : List Pos) (j : ℕ) (h : AtHand) : Type 0 where
  pub opened : IsOpened h.opened B
  pub tries : (d : Dialect) → map move_of h.tries.items ≡ theory.tries (chess d) B
  pub told : All (IsTold B j) h.tries.items

-- the set that is asked has its number in the table and is open, and some move is left to it
pub record IsAskedIn (T : SetRows) (a : Asked) : Type 0 where
  pub some : 0 < a.moves
  pub within : a.set < length T
  pub opened : IsOpened a.at_hand.opened (set_at T a.set)

module _ (d : Dialect) where
  -- the try is legal in some member of the set that is asked, and what is told of it is so there
  pub record IsTryOf (T : SetRows) (a : Asked) (x : Try) : Type 0 where
    pub told : IsTold (set_at T a.set) a.moves x
    pub legal : legal_in_some (chess d) (set_at T a.set) (move_of x) ≡ true

  -- the first of the classes that cannot be won within j, by its words and its number, and that the table has it
  pub record TellsFirst (T : SetRows) (cs : List Class) (j : ℕ) (o : Option (Key × ℕ)) : Type 0 where
    pub tells : TellsSets d T (sets_of cs) j (is_none o)
    pub first : find (λ c. not (can (chess d) j c.1)) (map class_pair cs) ≡ option_map (λ l. (l.0, set_at T l.1)) o
    pub within : IfSome o (λ l. l.1 < length T)

  -- what blocks the try in the set with j moves, or that nothing does, and that the table has it; where nothing does, its
  -- split was paid
  pub record TellsBlock (cut : Bool) (T : SetRows) (B : List Pos) (j : ℕ) (t : Move) (had has : ℕ) (o : Option Block) : Type 0 where
    pub tells : TellsTry d cut T B j t (is_none o)
    pub blocked : IfSome o (IsBlock d cut T B j t)
    pub paid : o ≡ None → has + made (chess d) B t ≤ had

-- such an answer for a try of the set that is asked, by a stretch of the search, which takes what the split of the try takes
abbrev pub FindsBlock : Way → Asked → Move → Result (Option Block) SearchStop → Search → Search → Type 0
FindsBlock way a t r s s' =
    Searches way r (TellsBlock way.d way.cut s'.table (set_at s.table a.set) a.moves t s.units s'.units)
    (CoversTry (chess way.d) (set_at s.table a.set) a.moves t) (made (chess way.d) (set_at s.table a.set) t) s s'

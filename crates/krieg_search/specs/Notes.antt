-- What blocks each try of a set that cannot be won, as a search notes it.
use Rattle.std.specs.Prelude.{◌≡◌, ℕ, ◌+◌, ◌<◌, ◌≤◌, ◌==◌, ◌&&◌, Bool, false, List, length, map, option_map, Option, Vec}
use Rattle.std.specs.declared.alloc.Global.{Global}
use Rattle.std.specs.List.{All}
use Rattle.std.specs.Map.{lookup}
use Rattle.krieg_board.specs.Pos.{Pos}
use Rattle.krieg_board.specs.declared.men.Move.{Move}
use Rattle.krieg_words.specs.declared.dialects.Dialect.{Dialect}
use Rattle.krieg_theory.specs.Sets.{In}
use Rattle.krieg_theory.specs.Split.{refused, class, tries}
use Rattle.krieg_theory.specs.Can.{can}
use Rattle.krieg_costs.specs.Block as theory
use Rattle.krieg_costs.specs.Block.{LostClass, LostRefused, block}
use Rattle.krieg_costs.specs.Sums.{total}
use Rattle.krieg_game.specs.Keys.{Key}
use Rattle.krieg_game.specs.Chess.{chess}
use Rattle.krieg_table.specs.SetRows.{SetRows, set_at}
use Rattle.krieg_search.specs.Remainders.{FailsAtOnce}
use Rattle.krieg_search.specs.declared.notes.Question.{Question}
use Rattle.krieg_search.specs.declared.notes.Note.{Note}
use Rattle.krieg_search.specs.declared.notes.Block.{Block}
use Rattle.krieg_search.specs.declared.notes.Block.TheVariants.{AtOnce, Class, Refused}

-- what was asked, each with its notes
abbrev pub Rows : Type 0
Rows = List (Question × Vec Note Global)

-- the notes of all rows together
abbrev pub notes_in : Rows → ℕ
notes_in N = total (λ e. length e.1.items) N

-- what is kept: the rows, how many notes may be kept, and how many of these may be added yet
pub record NoteState : Type 0 where
  pub rows : Rows
  pub most : ℕ
  pub left : ℕ

-- the same set with the same number of moves
abbrev pub same_asked : Question → Question → Bool
same_asked a b = (a.set == b.set) && (a.moves == b.moves)

-- the notes of a row, where it is kept
abbrev pub items_of : Option (Vec Note Global) → Option (List Note)
items_of o = option_map (λ ns. ns.items) o

-- the notes on what is asked, if there are some
abbrev pub row_of : Rows → Question → Option (List Note)
row_of N a = items_of (lookup (same_asked a) N)

module _ (d : Dialect) where
  -- what blocks the try of the set B with j moves is a part of it, whose set has the number
  pub record IsLostPart (T : SetRows) (B : List Pos) (j : ℕ) (t : Move) (by : theory.Block Key) (part : List Pos) (set : ℕ) : Type 0 where
    pub blocks : block (chess d) j B t ≡ by
    pub within : set < length T
    pub at : set_at T set ≡ part

-- where the search may cut tries, no more is known of one that fails at once than that
module _ (d : Dialect) (cut : Bool) where
  -- what blocks the try of the set B with j moves
  abbrev pub IsBlock : SetRows → List Pos → ℕ → Move → Block → Type 0
  IsBlock T B j t AtOnce = FailsAtOnce d cut B t j
  IsBlock T B j t (Class heard set) = IsLostPart d T B j t (LostClass heard) (class (chess d) B t heard) set
  IsBlock T B j t (Refused set) = IsLostPart d T B j t LostRefused (refused (chess d) B t) set

  -- the set cannot be won, and each try that makes sense in it stands there once, in order, with what blocks it
  pub record IsRow (T : SetRows) (a : Question) (ns : List Note) : Type 0 where
    pub within : a.set < length T
    pub lost : can (chess d) a.moves (set_at T a.set) ≡ false
    pub tries_part : map (λ n. n.mv) ns ≡ tries (chess d) (set_at T a.set)
    pub blocks : All (λ n. IsBlock T (set_at T a.set) a.moves n.mv n.block) ns

  -- each row is right, and all together have no more notes than may be kept
  pub record AreNotes (T : SetRows) (N : NoteState) : Type 0 where
    pub rows : (e : Question × Vec Note Global) → In e N.rows → IsRow T e.0 e.1.items
    pub few : notes_in N.rows + N.left ≤ N.most

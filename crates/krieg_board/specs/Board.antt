-- What stands on a square of a board.
use Rattle.std.specs.Prelude.{ℕ, Bool, false, List, Option, Some, None, ◌&&◌, is_none, slice_index_or}
use Rattle.krieg_board.specs.Men.{is_same_side, is_same_kind}
use Rattle.krieg_board.specs.declared.men.Side.{Side}
use Rattle.krieg_board.specs.declared.men.Kind.{Kind}
use Rattle.krieg_board.specs.declared.men.Man.{Man}

-- what stands on each square, a1 first
abbrev pub Board : Type 0
Board = List (Option Man)

-- what stands on the square: nothing on a number that is no square of the board
abbrev pub man_at : Board → ℕ → Option Man
man_at b s = slice_index_or b s None

-- nobody stands there
abbrev pub is_empty : Board → ℕ → Bool
is_empty b s = is_none (man_at b s)

-- a man of that side
abbrev pub is_of : Side → Option Man → Bool
is_of side None = false
is_of side (Some m) = is_same_side m.side side

-- a man of that side and kind
abbrev pub is_man : Side → Kind → Option Man → Bool
is_man side which None = false
is_man side which (Some m) = is_same_side m.side side && is_same_kind m.kind which

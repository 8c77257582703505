-- A position as contracts see it.
use Rattle.std.specs.Prelude.{ℕ, Option}
use Rattle.krieg_board.specs.Board.{Board}
use Rattle.krieg_board.specs.declared.men.Side.{Side}
use Rattle.krieg_board.specs.declared.men.Rights.{Rights}

-- the board, the side to move, the castling rights, and the mark: the square that a pawn has just crossed in a two-square advance
pub record Pos : Type 0 where
  pub board : Board
  pub side : Side
  pub rights : Rights
  pub mark : Option ℕ

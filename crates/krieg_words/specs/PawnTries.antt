-- Pawn tries: the pawn captures that the side to move has.
use Rattle.std.specs.Prelude.{ℕ, Bool, ◌&&◌, not, ◌==◌, sum_by, count_by}
use Rattle.krieg_board.specs.Squares.{squares, file_of}
use Rattle.krieg_board.specs.Board.{man_at}
use Rattle.krieg_board.specs.Validity.{is_pawn}
use Rattle.krieg_board.specs.Pos.{Pos}
use Rattle.krieg_moves.specs.Moves.{can_go}

-- a pawn stands on f, t is on another file, and the pawn may go there
unfoldable pub is_try : Pos → ℕ → ℕ → Bool
is_try p f t = is_pawn (man_at p.board f) && (not (file_of f == file_of t) && can_go p f t)

-- how many tries begin on f
unfoldable pub tries_from : Pos → ℕ → ℕ
tries_from p f = count_by (is_try p f) squares

-- how many pairs of squares are tries: four promotions on one pair count once
unfoldable pub tries : Pos → ℕ
tries p = sum_by (tries_from p) squares

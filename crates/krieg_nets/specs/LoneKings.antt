-- A king who is alone against officers: where he stands, and the positions with him on each square.
use Rattle.std.specs.Prelude.{ℕ, ◌≡◌, ◌<◌, false, None, Some, slice_set}
use Rattle.krieg_board.specs.Board.{Board, is_of, man_at}
use Rattle.krieg_board.specs.Boards.{is_kind}
use Rattle.krieg_board.specs.Men.{no_rights}
use Rattle.krieg_board.specs.Pos.{Pos}
use Rattle.krieg_board.specs.declared.men.Kind.TheVariants.{King, Pawn}
use Rattle.krieg_board.specs.declared.men.Man.{Man}
use Rattle.krieg_board.specs.declared.men.Move.{Move}
use Rattle.krieg_board.specs.declared.men.Side.{Side}

-- the king of that side
abbrev pub king_of : Side → Man
king_of side = record { side = side; kind = King }

-- the men and the king of that side on the square, without rights and without a mark
unfoldable pub with_king : Board → Side → ℕ → Side → Pos
with_king men lone king turn = record { board = slice_set men king (Some (king_of lone)); side = turn; rights = no_rights; mark = None }

-- no man of the lone king's side is among them, and no pawn
pub record AreOfficers (men : Board) (lone : Side) : Type 0 where
  pub enemies : (k : ℕ) → k < 64 → is_of lone (man_at men k) ≡ false
  pub officers : (k : ℕ) → k < 64 → is_kind Pawn (man_at men k) ≡ false

-- the board behind the move of the man on the one square, whoever he is
pub record IsMovedMan (men next : Board) (mv : Move) : Type 0 where
  pub man : Man
  pub is : man_at men mv.from ≡ Some man
  pub next_is : next ≡ slice_set (slice_set men mv.from None) mv.to (Some man)

-- The position after a move (FIDE Laws, articles 3.7 and 3.8).
use Rattle.std.specs.Prelude.{ℕ, Bool, false, Option, Some, None, not, ◌&&◌, ◌==◌, slice_set, if◌then◌else◌}
use Rattle.krieg_board.specs.Men.{other, is_same_side, is_same_kind}
use Rattle.krieg_board.specs.Squares.{file_of, rank_of, square_at, pawn_rank, crossed_rank, landing_rank}
use Rattle.krieg_board.specs.Board.{Board, man_at}
use Rattle.krieg_board.specs.Pos.{Pos}
use Rattle.krieg_board.specs.declared.men.Side.{Side}
use Rattle.krieg_board.specs.declared.men.Side.TheVariants.{White, Black}
use Rattle.krieg_board.specs.declared.men.Kind.{Kind}
use Rattle.krieg_board.specs.declared.men.Kind.TheVariants.{Pawn, Knight, Bishop, Rook, Queen, King}
use Rattle.krieg_board.specs.declared.men.Promo.{Promo}
use Rattle.krieg_board.specs.declared.men.Promo.TheVariants as promo
use Rattle.krieg_board.specs.declared.men.Man.{Man}
use Rattle.krieg_board.specs.declared.men.Move.{Move}
use Rattle.krieg_board.specs.declared.men.Rights.{Rights}
use Rattle.krieg_moves.specs.Wings.{king_square, corner, arrival, crossing}
use Rattle.krieg_moves.specs.declared.wing.Wing.{Wing}
use Rattle.krieg_moves.specs.declared.wing.Wing.TheVariants.{Short, Long}

-- the kind of the man that arrives
abbrev pub kind_after : Promo → Kind → Kind
kind_after promo.Plain which = which
kind_after promo.Queen which = Queen
kind_after promo.Rook which = Rook
kind_after promo.Bishop which = Bishop
kind_after promo.Knight which = Knight

-- the man that arrives
abbrev pub placed : Man → Move → Man
placed man m = record { side = man.side; kind = kind_after m.promo man.kind }

-- the man leaves the one square and stands on the other; a man that stood there is gone
abbrev pub moved : Board → Man → Move → Board
moved b man m = slice_set (slice_set b m.from None) m.to (Some (placed man m))

-- the mark is that square
abbrev pub is_marked : Option ℕ → ℕ → Bool
is_marked None s = false
is_marked (Some m) s = m == s

-- a pawn captures in passing: it leaves its file and arrives on the mark
abbrev pub is_en_passant : Option ℕ → Man → Move → Bool
is_en_passant mark man m = is_same_kind man.kind Pawn && (is_marked mark m.to && not (file_of m.from == file_of m.to))

-- where the pawn that is captured in passing stands: on the file of arrival and the rank of departure
abbrev pub passed_square : Move → ℕ
passed_square m = square_at (file_of m.to) (rank_of m.from)

-- the king goes from its own square to the square where it arrives in castling on that wing
abbrev pub is_castling : Wing → Man → Move → Bool
is_castling wing man m = is_same_kind man.kind King && (m.from == king_square man.side && m.to == arrival wing man.side)

-- the wing's rook leaves its corner and stands on the square that the king crossed
abbrev pub with_rook : Wing → Side → Board → Board
with_rook wing side b = slice_set (slice_set b (corner wing side) None) (crossing wing side) (Some (record { side = side; kind = Rook }))

-- the board after a move: the man moved, with what castling and capturing in passing change beside it
abbrev pub board_after : Board → Option ℕ → Man → Move → Board
board_after b mark man m =
    if is_en_passant mark man m then slice_set (moved b man m) (passed_square m) None
    else if is_castling Short man m then with_rook Short man.side (moved b man m)
    else if is_castling Long man m then with_rook Long man.side (moved b man m)
    else moved b man m

-- a right stays where its king does not move, and no move begins or ends on its rook's corner
abbrev pub keeps_right : Bool → Wing → Side → Man → Move → Bool
keeps_right held wing side man m =
    held && (not (is_same_kind man.kind King && is_same_side man.side side)
    && (not (m.from == corner wing side) && not (m.to == corner wing side)))

-- the rights after a move: each stays where neither its king nor its rook moved or was taken
abbrev pub rights_after : Rights → Man → Move → Rights
rights_after r man m = record {
  white_short = keeps_right r.white_short Short White man m;
  white_long = keeps_right r.white_long Long White man m;
  black_short = keeps_right r.black_short Short Black man m;
  black_long = keeps_right r.black_long Long Black man m;
}

-- a pawn goes from the rank where it begins to the rank that a two-square advance reaches
abbrev pub is_advance : Man → Move → Bool
is_advance man m = is_same_kind man.kind Pawn && (rank_of m.from == pawn_rank man.side && rank_of m.to == landing_rank man.side)

-- the square on the file of s that a side's pawn crosses in a two-square advance
abbrev pub crossed : Side → ℕ → ℕ
crossed side s = square_at (file_of s) (crossed_rank side)

-- the mark is the crossed square after a two-square advance, and otherwise none
abbrev pub mark_after : Man → Move → Option ℕ
mark_after man m = if is_advance man m then Some (crossed man.side m.from) else None

-- the position after a move of that man, or the same position where nobody stands there
abbrev pub after_by : Pos → Option Man → Move → Pos
after_by p None m = p
after_by p (Some man) m = record {
  board = board_after p.board p.mark man m;
  side = other p.side;
  rights = rights_after p.rights man m;
  mark = mark_after man m;
}

-- the position after the move of the man on the from-square; where nobody stands there, all stays
unfoldable pub after : Pos → Move → Pos
after p m = after_by p (man_at p.board m.from) m

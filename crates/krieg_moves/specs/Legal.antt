-- Which moves are legal (FIDE Laws, articles 3.1 to 3.10).
use Rattle.std.specs.Prelude.{ℕ, Bool, true, false, Option, Some, None, not, ◌&&◌, ◌||◌, ◌==◌, nat_lt, if◌then◌else◌}
use Rattle.krieg_board.specs.Men.{other, is_same_side}
use Rattle.krieg_board.specs.Squares.{file_of, rank_of, pawn_rank, landing_rank, last_rank}
use Rattle.krieg_board.specs.Board.{Board, man_at, is_empty, is_of}
use Rattle.krieg_board.specs.Attacks.{attacks, is_attacked, is_clear, is_forward, is_king_attacked}
use Rattle.krieg_board.specs.Pos.{Pos}
use Rattle.krieg_board.specs.declared.men.Side.{Side}
use Rattle.krieg_board.specs.declared.men.Side.TheVariants.{White, Black}
use Rattle.krieg_board.specs.declared.men.Kind.{Kind}
use Rattle.krieg_board.specs.declared.men.Kind.TheVariants.{Pawn, Knight, Bishop, Rook, Queen, King}
use Rattle.krieg_board.specs.declared.men.Promo.{Promo}
use Rattle.krieg_board.specs.declared.men.Promo.TheVariants as promo
use Rattle.krieg_board.specs.declared.men.Man.{Man}
use Rattle.krieg_board.specs.declared.men.Move.{Move}
use Rattle.krieg_board.specs.declared.men.Rights.{Rights}
use Rattle.krieg_moves.specs.Wings.{king_square, corner, arrival, crossing}
use Rattle.krieg_moves.specs.After.{after, crossed, is_marked}
use Rattle.krieg_moves.specs.declared.wing.Wing.{Wing}
use Rattle.krieg_moves.specs.declared.wing.Wing.TheVariants.{Short, Long}

-- no promotion is named
abbrev pub is_plain : Promo → Bool
is_plain promo.Plain = true
is_plain _ = false

-- one square straight forward, to an empty square
abbrev pub is_step : Board → Side → Move → Bool
is_step b side m = file_of m.from == file_of m.to && (is_forward side m.from m.to && is_empty b m.to)

-- two squares straight forward from the rank where pawns begin, over an empty square to an empty square
abbrev pub is_double_step : Board → Side → Move → Bool
is_double_step b side m =
    file_of m.from == file_of m.to && (rank_of m.from == pawn_rank side && (rank_of m.to == landing_rank side
    && (is_empty b (crossed side m.from) && is_empty b m.to)))

-- to a square that the pawn attacks, and which holds an enemy man or is the mark
abbrev pub is_pawn_capture : Pos → Move → Bool
is_pawn_capture p m = attacks p.board m.from m.to && (is_of (other p.side) (man_at p.board m.to) || is_marked p.mark m.to)

-- a promotion is named exactly where the pawn reaches the last rank
abbrev pub has_promotion : Side → Move → Bool
has_promotion side m = if rank_of m.to == last_rank side then not (is_plain m.promo) else is_plain m.promo

-- how a pawn goes: a step, two steps, or a capture, and it promotes exactly on the last rank
abbrev pub is_pawn_move : Pos → Move → Bool
is_pawn_move p m = has_promotion p.side m && (is_step p.board p.side m || (is_double_step p.board p.side m || is_pawn_capture p m))

-- the side holds the right to castle on the wing
abbrev pub holds : Rights → Side → Wing → Bool
holds r White Short = r.white_short
holds r White Long = r.white_long
holds r Black Short = r.black_short
holds r Black Long = r.black_long

-- no enemy man attacks the square
abbrev pub is_safe : Pos → ℕ → Bool
is_safe p s = not (is_attacked p.board s (other p.side))

-- the king castles on the wing: the right is held, the squares between king and rook are empty, and the enemy attacks
-- neither the king's square nor the one that it crosses nor the one where it arrives
abbrev pub can_castle : Wing → Pos → Move → Bool
can_castle wing p m =
    m.from == king_square p.side && (m.to == arrival wing p.side && (holds p.rights p.side wing
    && (is_clear p.board (king_square p.side) (corner wing p.side)
    && (is_safe p (king_square p.side) && (is_safe p (crossing wing p.side) && is_safe p (arrival wing p.side))))))

-- how a king goes: to a square that he attacks, or he castles
abbrev pub is_king_move : Pos → Move → Bool
is_king_move p m = is_plain m.promo && (attacks p.board m.from m.to || (can_castle Short p m || can_castle Long p m))

-- a knight, bishop, rook or queen goes to a square that it attacks
abbrev pub is_officer_move : Pos → Move → Bool
is_officer_move p m = is_plain m.promo && attacks p.board m.from m.to

-- how a man of that kind goes
abbrev pub is_move_of_kind : Kind → Pos → Move → Bool
is_move_of_kind Pawn p m = is_pawn_move p m
is_move_of_kind Knight p m = is_officer_move p m
is_move_of_kind Bishop p m = is_officer_move p m
is_move_of_kind Rook p m = is_officer_move p m
is_move_of_kind Queen p m = is_officer_move p m
is_move_of_kind King p m = is_king_move p m

-- the man is of the side to move, and goes as its kind goes
abbrev pub is_move_of : Option Man → Pos → Move → Bool
is_move_of None p m = false
is_move_of (Some man) p m = is_same_side man.side p.side && is_move_of_kind man.kind p m

-- legal but for the own king's safety after the move: both squares are on the board, and no own man stands on the to-square
unfoldable pub is_candidate : Pos → Move → Bool
is_candidate p m =
    nat_lt m.from 64 && (nat_lt m.to 64 && (not (is_of p.side (man_at p.board m.to)) && is_move_of (man_at p.board m.from) p m))

-- a legal move: after it the mover's own king is not attacked
unfoldable pub is_legal : Pos → Move → Bool
is_legal p m = is_candidate p m && not (is_king_attacked (after p m).board p.side)

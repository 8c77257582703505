-- Moves are ordered as the theory asks, all of them ascend, and a legal one is among them.
use Rattle.std.proofs.Common.{◌≡◌, true}
use Rattle.krieg_game.proofs.Common.{move_lt, move_cmp, Pos, Move, is_legal, all_moves, In, Ascending, IsOrder, IsStrict}
use Rattle.krieg_board.proofs.MoveOrder.{move_total, move_equal}
use Rattle.krieg_moves.proofs.Ascending.{all_moves_ascend}
use Rattle.krieg_moves.proofs.Listed.{legal_in_all}
use Rattle.krieg_pack.proofs.Membership.{contains_in}
use Rattle.krieg_pack.proofs.Sorting.{ascending_from, is_order}

pub legal_listed : (p : Pos) (m : Move) → is_legal p m ≡ true → In m all_moves
legal_listed p m h = contains_in m all_moves (legal_in_all p m h)

pub moves_up : Ascending move_lt all_moves
moves_up = ascending_from move_cmp move_total move_equal all_moves all_moves_ascend

pub move_strict : IsStrict move_cmp
move_strict = record { total = move_total; apart = move_equal }

pub move_order : IsOrder move_lt
move_order = is_order move_cmp move_total move_equal

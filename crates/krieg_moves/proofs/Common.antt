-- The words of specs/, of this crate and of those below it, that its proofs cite: passed on from one place.
unfoldable pub use Rattle.krieg_board.specs.Attacks.{attacks, is_attacked, is_between, is_clear, is_king_attacked}
pub use Rattle.krieg_board.specs.Attacks.{apart, can_reach, is_forward, man_attacks, slides}
pub use Rattle.krieg_board.specs.Board.{Board, is_empty, is_man, is_of, man_at}
pub use Rattle.krieg_board.specs.Boards.{Show, is_kind}
unfoldable pub use Rattle.krieg_board.specs.Hand.{has_same_men, same_hand}
pub use Rattle.krieg_board.specs.Hand.{has_same_rights, is_same_of}
pub use Rattle.krieg_board.specs.Men.{is_same_bool, is_same_kind, is_same_side, other}
pub use Rattle.krieg_board.specs.Order.{move_cmp}
pub use Rattle.krieg_board.specs.Pos.{Pos}
unfoldable pub use Rattle.krieg_board.specs.Sets.{has, squares_where}
pub use Rattle.krieg_board.specs.Sets.{IsLowest}
unfoldable pub use Rattle.krieg_board.specs.Squares.{every_square, some_square, squares}
pub use Rattle.krieg_board.specs.Squares.{crossed_rank, file_of, gathered, home_rank, landing_rank, last_rank, pawn_rank, rank_of, square_at}
unfoldable pub use Rattle.krieg_board.specs.Validity.{first_fault, has_pawns_inside}
pub use Rattle.krieg_board.specs.Validity.{IsValid, count_kind, count_side, has_castle, has_castles, has_kings, has_mark, is_crossed, is_pawn, is_small}
pub use Rattle.krieg_board.specs.declared.bits.Sets.{Sets}
pub use Rattle.krieg_board.specs.declared.men.Kind.{Kind}
pub use Rattle.krieg_board.specs.declared.men.Kind.TheVariants.{King, Pawn}
pub use Rattle.krieg_board.specs.declared.men.Man.{Man}
pub use Rattle.krieg_board.specs.declared.men.Move.{Move}
pub use Rattle.krieg_board.specs.declared.men.Promo.{Promo}
pub use Rattle.krieg_board.specs.declared.men.Promo.TheVariants.{Plain}
pub use Rattle.krieg_board.specs.declared.men.Rights.{Rights}
pub use Rattle.krieg_board.specs.declared.men.Side.{Side}
pub use Rattle.krieg_board.specs.declared.men.Side.TheVariants.{Black, White}
unfoldable pub use Rattle.krieg_rays.specs.Pinned.{is_pinned}
pub use Rattle.krieg_rays.specs.Pinned.{is_pinned_by}
unfoldable pub use Rattle.krieg_rays.specs.Rays.{goes, is_ahead}
unfoldable pub use Rattle.krieg_moves.specs.After.{after}
pub use Rattle.krieg_moves.specs.After.{after_by, board_after, crossed, is_advance, is_castling, is_en_passant, is_marked, keeps_right, kind_after, mark_after, moved, passed_square, placed, rights_after, with_rook}
unfoldable pub use Rattle.krieg_moves.specs.Guarding.{answers_all, is_answered}
pub use Rattle.krieg_moves.specs.Guarding.{IsGuard, answers}
unfoldable pub use Rattle.krieg_moves.specs.Legal.{is_candidate, is_legal}
pub use Rattle.krieg_moves.specs.Legal.{can_castle, has_promotion, holds, is_double_step, is_king_move, is_move_of, is_move_of_kind, is_officer_move, is_pawn_capture, is_pawn_move, is_plain, is_safe, is_step}
unfoldable pub use Rattle.krieg_moves.specs.Moves.{all_moves, can_go, in_check, is_ended, moves, moves_from, moves_of}
pub use Rattle.krieg_moves.specs.Moves.{is_nil, moves_between, plain_move, promotes, promotions}
pub use Rattle.krieg_moves.specs.Targets.{HasOnlyPawns, IsAlone, IsFreePawn, is_capture, is_free_officer, is_king_step, is_officer, is_officer_of, is_step_of_king}
unfoldable pub use Rattle.krieg_moves.specs.Ways.{ways}
pub use Rattle.krieg_moves.specs.Ways.{ahead, ahead_east, ahead_west, one_if, total, two_ahead, ways_from}
pub use Rattle.krieg_moves.specs.Wings.{arrival, corner, crossing, king_square, rook_file}
pub use Rattle.krieg_moves.specs.declared.count.TheConstants.{MOST_LEGAL_MOVES}
pub use Rattle.krieg_moves.specs.declared.guard.Guard.{Guard}
pub use Rattle.krieg_moves.specs.declared.wing.Wing.{Wing}
pub use Rattle.krieg_moves.specs.declared.wing.Wing.TheVariants.{Long, Short}

-- The words of specs/, of this crate and of those below it, that its proofs cite: passed on from one place.
unfoldable pub use Rattle.krieg_board.specs.Attacks.{attacks, is_attacked, is_between, is_clear}
pub use Rattle.krieg_board.specs.Attacks.{can_reach, is_inside, man_attacks, slides}
pub use Rattle.krieg_board.specs.Board.{Board, is_man, is_of, man_at}
pub use Rattle.krieg_board.specs.Boards.{Show, is_kind}
pub use Rattle.krieg_board.specs.Men.{is_same_bool, is_same_kind, other}
pub use Rattle.krieg_board.specs.Pos.{Pos}
unfoldable pub use Rattle.krieg_board.specs.Sets.{has}
pub use Rattle.krieg_board.specs.Sets.{IsLowest}
unfoldable pub use Rattle.krieg_board.specs.Squares.{every_square, some_square, squares}
pub use Rattle.krieg_board.specs.Validity.{IsValid, count_kind}
pub use Rattle.krieg_board.specs.declared.bits.Sets.{Sets}
pub use Rattle.krieg_board.specs.declared.men.Kind.{Kind}
pub use Rattle.krieg_board.specs.declared.men.Kind.TheVariants.{Bishop, King, Knight, Pawn, Queen, Rook}
pub use Rattle.krieg_board.specs.declared.men.Man.{Man}
pub use Rattle.krieg_board.specs.declared.men.Side.{Side}
pub use Rattle.krieg_board.specs.declared.men.Side.TheVariants.{Black, White}
unfoldable pub use Rattle.krieg_rays.specs.Pinned.{is_pinned}
pub use Rattle.krieg_rays.specs.Pinned.{is_pinned_by}
unfoldable pub use Rattle.krieg_rays.specs.Rays.{goes, is_ahead, is_on_falling, is_on_file, is_on_rank, is_on_rising, is_open, is_seen, none_above, none_below}
pub use Rattle.krieg_rays.specs.Rays.{reaches}
unfoldable pub use Rattle.krieg_rays.specs.Snipers.{is_only, is_sniper}
pub use Rattle.krieg_rays.specs.Snipers.{is_near}
pub use Rattle.krieg_rays.specs.declared.leap_tables.TheConstants.{KINGS, KNIGHTS}
pub use Rattle.krieg_rays.specs.declared.line_tables.TheConstants.{FALLING, FILES, RANKS, RISING}
pub use Rattle.krieg_rays.specs.declared.pawn_tables.TheConstants.{BLACK_PAWNS, BLACK_STEPS, WHITE_PAWNS, WHITE_STEPS}

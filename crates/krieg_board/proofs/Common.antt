-- The words of specs/, of this crate and of those below it, that its proofs cite: passed on from one place.
pub use Rattle.krieg_faults.specs.declared.position.BadPosition.{BadPosition}
unfoldable pub use Rattle.krieg_board.specs.Attacks.{attacks, is_attacked, is_between, is_clear, is_king_attacked}
pub use Rattle.krieg_board.specs.Board.{Board, is_man, is_of, man_at}
unfoldable pub use Rattle.krieg_board.specs.Boards.{board_of, empty_board, sets_of}
pub use Rattle.krieg_board.specs.Boards.{AreExact, Show, is_kind, man_on}
unfoldable pub use Rattle.krieg_board.specs.Hand.{has_same_men}
pub use Rattle.krieg_board.specs.Hand.{is_alike, is_same_of}
pub use Rattle.krieg_board.specs.Men.{is_same_bool, is_same_kind, is_same_side, other}
pub use Rattle.krieg_board.specs.Order.{move_cmp, move_numbers, promo_place}
pub use Rattle.krieg_board.specs.Pos.{Pos}
unfoldable pub use Rattle.krieg_board.specs.Sets.{has, set_below, squares_where}
pub use Rattle.krieg_board.specs.Sets.{IsLowest}
unfoldable pub use Rattle.krieg_board.specs.Squares.{every_square, some_square, squares}
pub use Rattle.krieg_board.specs.Squares.{gathered, rank_of}
unfoldable pub use Rattle.krieg_board.specs.Validity.{first_fault, has_pawns_inside}
pub use Rattle.krieg_board.specs.Validity.{IsValid, count_kind, has_castles, has_kings, has_mark, is_pawn, is_small}
pub use Rattle.krieg_board.specs.declared.bits.Sets.{Sets}
pub use Rattle.krieg_board.specs.declared.men.Kind.{Kind}
pub use Rattle.krieg_board.specs.declared.men.Kind.TheVariants.{King, Pawn}
pub use Rattle.krieg_board.specs.declared.men.Man.{Man}
pub use Rattle.krieg_board.specs.declared.men.Move.{Move}
pub use Rattle.krieg_board.specs.declared.men.Promo.{Promo}
pub use Rattle.krieg_board.specs.declared.men.Promo.TheVariants.{Plain}
pub use Rattle.krieg_board.specs.declared.men.Side.{Side}
pub use Rattle.krieg_board.specs.declared.men.Side.TheVariants.{Black, White}

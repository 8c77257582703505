-- The words of specs/, of this crate and of those below it, that its proofs cite: passed on from one place.
pub use Rattle.krieg_board.specs.Board.{Board, is_of, man_at}
unfoldable pub use Rattle.krieg_board.specs.Boards.{board_of}
pub use Rattle.krieg_board.specs.Boards.{AreExact, Show, is_kind}
pub use Rattle.krieg_board.specs.Men.{bits_of}
pub use Rattle.krieg_board.specs.Pos.{Pos}
unfoldable pub use Rattle.krieg_board.specs.Sets.{has}
pub use Rattle.krieg_board.specs.Sets.{IsLowest}
unfoldable pub use Rattle.krieg_board.specs.Squares.{squares}
unfoldable pub use Rattle.krieg_board.specs.Validity.{first_fault}
pub use Rattle.krieg_board.specs.Validity.{IsValid}
pub use Rattle.krieg_board.specs.declared.bits.Sets.{Sets}
pub use Rattle.krieg_board.specs.declared.men.Kind.{Kind}
pub use Rattle.krieg_board.specs.declared.men.Kind.TheVariants.{Bishop, King, Knight, Pawn, Queen, Rook}
pub use Rattle.krieg_board.specs.declared.men.Man.{Man}
pub use Rattle.krieg_board.specs.declared.men.Side.{Side}
pub use Rattle.krieg_board.specs.declared.men.Side.TheVariants.{Black, White}
pub use Rattle.krieg_theory.specs.Sets.{Ascending, In, IsOrder, as_set, insert_once}
unfoldable pub use Rattle.krieg_pack.specs.Bytes.{bytes_of}
pub use Rattle.krieg_pack.specs.Bytes.{paired}
unfoldable pub use Rattle.krieg_pack.specs.Codes.{numbers}
pub use Rattle.krieg_pack.specs.Codes.{man_code, mark_code, side_code}
pub use Rattle.krieg_pack.specs.CodesBack.{man_back, mark_back, rights_back, side_back}
pub use Rattle.krieg_pack.specs.Decoding.{man_of, mark_of, rights_of, side_of}
unfoldable pub use Rattle.krieg_pack.specs.Members.{set_of}
pub use Rattle.krieg_pack.specs.Members.{IsAscending, IsSetOf}
pub use Rattle.krieg_pack.specs.Order.{position_cmp, position_eq, position_lt}
unfoldable pub use Rattle.krieg_pack.specs.OneMan.{are, fields_of, one_man}
pub use Rattle.krieg_pack.specs.OneMan.{at, members_of, same_fields}
pub use Rattle.krieg_pack.specs.OrderLaws.{position_total}
unfoldable pub use Rattle.krieg_pack.specs.Packing.{packed, plane, unpacked}
pub use Rattle.krieg_pack.specs.Packing.{IsPacked, code_at, state}
pub use Rattle.krieg_pack.specs.SameNumbers.{same_position}
pub use Rattle.krieg_pack.specs.declared.packed.Packed.TheInside.{Inside}
pub use Rattle.krieg_pack.specs.declared.one_man.OneMan.{OneMan}

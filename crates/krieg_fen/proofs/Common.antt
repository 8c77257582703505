-- The words of specs/, of this crate and of those below it, that its proofs cite: passed on from one place.
pub use Rattle.krieg_faults.specs.declared.position.BadPosition.{BadPosition}
unfoldable pub use Rattle.krieg_board.specs.Attacks.{attacks, is_attacked, is_king_attacked}
pub use Rattle.krieg_board.specs.Board.{Board, is_of, man_at}
unfoldable pub use Rattle.krieg_board.specs.Boards.{empty_board}
pub use Rattle.krieg_board.specs.Boards.{Show, is_kind}
unfoldable pub use Rattle.krieg_board.specs.Hand.{has_same_men, same_hand}
pub use Rattle.krieg_board.specs.Hand.{has_same_rights, is_same_of}
pub use Rattle.krieg_board.specs.Men.{is_same_bool, is_same_kind, is_same_side, no_rights, other}
pub use Rattle.krieg_board.specs.Pos.{Pos}
unfoldable pub use Rattle.krieg_board.specs.Sets.{has}
pub use Rattle.krieg_board.specs.Sets.{IsLowest}
unfoldable pub use Rattle.krieg_board.specs.Squares.{every_square, some_square, squares}
pub use Rattle.krieg_board.specs.Squares.{crossed_rank, rank_of}
unfoldable pub use Rattle.krieg_board.specs.Validity.{first_fault, has_pawns_inside}
pub use Rattle.krieg_board.specs.Validity.{IsValid, has_mark}
pub use Rattle.krieg_board.specs.declared.bits.Sets.{Sets}
pub use Rattle.krieg_board.specs.declared.men.Kind.{Kind}
pub use Rattle.krieg_board.specs.declared.men.Kind.TheVariants.{King, Pawn}
pub use Rattle.krieg_board.specs.declared.men.Man.{Man}
pub use Rattle.krieg_board.specs.declared.men.Move.{Move}
pub use Rattle.krieg_board.specs.declared.men.Promo.{Promo}
pub use Rattle.krieg_board.specs.declared.men.Promo.TheVariants.{Plain}
pub use Rattle.krieg_board.specs.declared.men.Rights.{Rights}
pub use Rattle.krieg_board.specs.declared.men.Side.{Side}
pub use Rattle.krieg_board.specs.declared.men.Side.TheVariants.{Black, White}
pub use Rattle.krieg_board.specs.declared.position.Position.{Position}
pub use Rattle.krieg_text.specs.Decimals.{number_text}
pub use Rattle.krieg_text.specs.FirstBad.{Has, IsFormed, is_beyond_form}
pub use Rattle.krieg_text.specs.Formats.{behind_or}
pub use Rattle.krieg_text.specs.Languages.{Any, Behind, Nothing, One, Times, ◌⨾◌}
pub use Rattle.krieg_text.specs.Lines.{AreLines, is_line}
pub use Rattle.krieg_text.specs.Outcomes.{◌>>=◌}
pub use Rattle.krieg_text.specs.Pieces.{pieces, pieces_left}
pub use Rattle.krieg_text.specs.Reading.{GivesOn, Passed, Place, on, place, taken}
pub use Rattle.krieg_text.specs.Writing.{HasLines}
pub use Rattle.krieg_text.specs.declared.fault.TextFault.{TextFault}
pub use Rattle.krieg_text.specs.declared.fault.TextFault.TheVariants.{At, NoMemory}
pub use Rattle.krieg_text.specs.declared.fault.TextKind.{TextKind}
pub use Rattle.krieg_text.specs.declared.fault.TextKind.TheVariants.{Count, Differs, OutOfPlace, Syntax}
unfoldable pub use Rattle.krieg_fen.specs.Fen.{position_of}
pub use Rattle.krieg_fen.specs.Fen.{checked, clocks_at, field, position_at, unless}
unfoldable pub use Rattle.krieg_fen.specs.FenText.{board_text, position_text, rights_text, state_text}
pub use Rattle.krieg_fen.specs.FenText.{AreRanks, held_text, mark_text, or_dash, rank_at, rank_text, ranks_text, row_text, run, side_text}
pub use Rattle.krieg_fen.specs.Fields.{is_clock, letter_at, letters_of, mark_at, mark_of, rights_of, side_of}
unfoldable pub use Rattle.krieg_fen.specs.Forms.{list_form, listed_form, listing_at, position_form, side_form, start_form}
pub use Rattle.krieg_fen.specs.Forms.{has_turn, list_line, matching, position_kind, positions_at, side_line, side_mark}
pub use Rattle.krieg_fen.specs.Letters.{capital, kind_by, letter, man_of, small_letter}
pub use Rattle.krieg_fen.specs.ListText.{position_line}
pub use Rattle.krieg_fen.specs.Listing.{ListGrammar, ListingGrammar, SpellList, SpellsListing, Suits, list_head}
unfoldable pub use Rattle.krieg_fen.specs.MoveText.{move_text}
pub use Rattle.krieg_fen.specs.MoveText.{IsOnBoard, move_of, move_with, promo_of, promo_text, square_named, square_of, square_text}
pub use Rattle.krieg_fen.specs.Ranks.{AddsSquares, FailsAbove, KeepsOthers, Row, board_of, eight, onto_row, ranks_of, row_of, squares_at}
pub use Rattle.krieg_fen.specs.Spelling.{AreClocks, SpellRanks, Spells, SpellsBoard}
pub use Rattle.krieg_fen.specs.declared.fen.FenFault.{FenFault}
pub use Rattle.krieg_fen.specs.declared.fen.FenFault.TheVariants.{Bad, Field, Fields}
pub use Rattle.krieg_fen.specs.declared.forms.TheConstants.{MOST_LISTED}
pub use Rattle.krieg_fen.specs.declared.forms.Turn.{Turn}
pub use Rattle.krieg_fen.specs.declared.forms.Turn.TheVariants.{Either, Own}

-- The words of specs/, of this crate and of those below it, that its proofs cite: passed on from one place.
unfoldable pub use Rattle.krieg_board.specs.Hand.{same_hand}
pub use Rattle.krieg_board.specs.Men.{is_same_side, other}
pub use Rattle.krieg_board.specs.Pos.{Pos}
pub use Rattle.krieg_board.specs.Validity.{IsValid}
pub use Rattle.krieg_board.specs.declared.men.Move.{Move}
pub use Rattle.krieg_board.specs.declared.men.Side.{Side}
pub use Rattle.krieg_board.specs.declared.men.Side.TheVariants.{Black, White}
unfoldable pub use Rattle.krieg_moves.specs.After.{after}
pub use Rattle.krieg_text.specs.Formats.{Always, IsReading}
pub use Rattle.krieg_text.specs.Languages.{Many, One, ◌⨾◌}
pub use Rattle.krieg_text.specs.Lines.{AreLines, is_line, lines, with_ends}
unfoldable pub use Rattle.krieg_text.specs.Names.{behind}
pub use Rattle.krieg_text.specs.Outcomes.{◌>>=◌}
pub use Rattle.krieg_text.specs.Reading.{GivesOn, Place, Step, goes_on, on, place, stops, taken, whole}
pub use Rattle.krieg_text.specs.Writing.{HasLines, alone, joined}
pub use Rattle.krieg_text.specs.declared.fault.TextFault.{TextFault}
pub use Rattle.krieg_text.specs.declared.fault.TextKind.{TextKind}
pub use Rattle.krieg_text.specs.declared.fault.TextKind.TheVariants.{OutOfPlace}
unfoldable pub use Rattle.krieg_fen.specs.FenText.{position_text}
unfoldable pub use Rattle.krieg_fen.specs.Forms.{listing_at}
pub use Rattle.krieg_fen.specs.Forms.{list_line, side_line}
pub use Rattle.krieg_fen.specs.ListText.{position_line}
pub use Rattle.krieg_fen.specs.Listing.{ListingGrammar, SpellList, SpellsListing, list_head}
pub use Rattle.krieg_fen.specs.declared.forms.TheConstants.{MOST_LISTED}
pub use Rattle.krieg_fen.specs.declared.forms.Turn.TheVariants.{Either}
unfoldable pub use Rattle.krieg_wordtext.specs.Line.{line_text}
pub use Rattle.krieg_wordtext.specs.Line.{IsLine, LineFits}
unfoldable pub use Rattle.krieg_wordtext.specs.LineReading.{line_in}
unfoldable pub use Rattle.krieg_wordtext.specs.Versions.{version_at}
pub use Rattle.krieg_wordtext.specs.Versions.{SpellVersion, version_lines}
pub use Rattle.krieg_words.specs.Words.{Said}
pub use Rattle.krieg_words.specs.declared.dialects.Dialect.{Dialect}
pub use Rattle.krieg_wordtext.specs.declared.line.Line.{Line}
pub use Rattle.krieg_wordtext.specs.declared.line.Line.TheVariants.{Done, Early, Heard, Illegal, Opens, Over}
pub use Rattle.krieg_sheet.specs.Games.{IsConsistent}
pub use Rattle.krieg_sheet.specs.Lists.{differs, list_fault, other_hand}
pub use Rattle.krieg_sheet.specs.Places.{IsKept, IsOpening, IsSheet, IsTold, OpeningFits}
unfoldable pub use Rattle.krieg_sheet.specs.SheetReading.{next_form, sheet_at, sheet_version_at}
pub use Rattle.krieg_sheet.specs.SheetReading.{entries_at, entry_form, followed_by, led, may_follow, may_open, placed, with_opening}
pub use Rattle.krieg_sheet.specs.SheetSpelling.{SheetGrammar, SpellsSheet, told_lines}
unfoldable pub use Rattle.krieg_sheet.specs.SheetText.{sheet_text}
pub use Rattle.krieg_sheet.specs.SheetText.{end_line, entry_line, opens_lines, sheet_lines}
pub use Rattle.krieg_sheet.specs.Sheets.{SheetState, entered, new_sheet}
pub use Rattle.krieg_sheet.specs.Turns.{are_in_place, first_turn, is_in_place, is_over, may_stand, over_after, over_at_first, over_behind, turn_after, turn_behind, turn_of}
pub use Rattle.krieg_sheet.specs.declared.sheet.SheetFault.TheVariants.{Count}

-- The words of specs/, of this crate and of those below it, that its proofs cite: passed on from one place.
pub use Rattle.krieg_board.specs.Men.{is_same_side, other}
pub use Rattle.krieg_board.specs.Pos.{Pos}
pub use Rattle.krieg_board.specs.Validity.{IsValid}
pub use Rattle.krieg_board.specs.declared.men.Move.{Move}
pub use Rattle.krieg_board.specs.declared.men.Side.{Side}
pub use Rattle.krieg_board.specs.declared.men.Side.TheVariants.{Black, White}
unfoldable pub use Rattle.krieg_moves.specs.After.{after}
unfoldable pub use Rattle.krieg_moves.specs.Legal.{is_legal}
unfoldable pub use Rattle.krieg_moves.specs.Moves.{in_check, is_ended, is_mate, is_stalemate}
pub use Rattle.krieg_text.specs.FirstBad.{Has}
pub use Rattle.krieg_text.specs.Formats.{Always, IsReading, behind_or}
pub use Rattle.krieg_text.specs.Languages.{Behind, One, UpToLast}
pub use Rattle.krieg_text.specs.Lines.{AreLines, is_line, lines}
unfoldable pub use Rattle.krieg_text.specs.Names.{behind}
pub use Rattle.krieg_text.specs.Outcomes.{◌>>=◌}
pub use Rattle.krieg_text.specs.Reading.{Step, goes_on, stops, taken, up_to_last, whole}
pub use Rattle.krieg_text.specs.Writing.{Appends, HasLines, joined}
pub use Rattle.krieg_text.specs.declared.fault.TextFault.{TextFault}
pub use Rattle.krieg_text.specs.declared.fault.TextKind.{TextKind}
unfoldable pub use Rattle.krieg_fen.specs.FenText.{position_text}
unfoldable pub use Rattle.krieg_fen.specs.Forms.{position_form, start_form}
pub use Rattle.krieg_fen.specs.Forms.{side_mark}
unfoldable pub use Rattle.krieg_fen.specs.MoveText.{move_text}
pub use Rattle.krieg_fen.specs.MoveText.{IsOnBoard, move_of}
pub use Rattle.krieg_fen.specs.Spelling.{Spells}
pub use Rattle.krieg_wordtext.specs.Line.{IsLine, told_line}
unfoldable pub use Rattle.krieg_words.specs.PawnTries.{tries}
pub use Rattle.krieg_words.specs.ToldWords.{told}
unfoldable pub use Rattle.krieg_wordtext.specs.Versions.{version_at}
pub use Rattle.krieg_wordtext.specs.Versions.{SpellVersion, version_lines}
pub use Rattle.krieg_words.specs.Words.{IsSaid, Said}
unfoldable pub use Rattle.krieg_words.specs.WordsOfMoves.{opening, words}
pub use Rattle.krieg_words.specs.WordsOfMoves.{end_of}
pub use Rattle.krieg_wordtext.specs.WordsText.{has_ended}
pub use Rattle.krieg_words.specs.declared.dialects.Dialect.{Dialect}
pub use Rattle.krieg_words.specs.declared.dialects.Dialect.TheVariants.{Anytry, Plain, Wild16}
pub use Rattle.krieg_wordtext.specs.declared.line.Line.{Line}
pub use Rattle.krieg_wordtext.specs.declared.line.Line.TheVariants.{Opens}
pub use Rattle.krieg_sheet.specs.Places.{IsTold}
unfoldable pub use Rattle.krieg_sheet.specs.SheetText.{sheet_text}
pub use Rattle.krieg_sheet.specs.SheetText.{entry_line}
pub use Rattle.krieg_sheet.specs.Turns.{are_in_place, ends}
pub use Rattle.krieg_umpire.specs.Games.{judge, judged, last}
pub use Rattle.krieg_umpire.specs.Hearing.{line_for, lines_for, others_line, own_line, strip}
pub use Rattle.krieg_umpire.specs.Laws.{AreTries, IsGame, LastIsConsistent, LinesAreHeard, SessionsAreReadBack, SheetsAreInPlace, SheetsAreReadBack}
unfoldable pub use Rattle.krieg_umpire.specs.SessionReading.{last_form, line_form, session_at, session_version_at, try_form}
pub use Rattle.krieg_umpire.specs.SessionReading.{event_form, events_at, last_lines, led, start_at, tried, unless_last, white_try}
pub use Rattle.krieg_umpire.specs.SessionSpelling.{SessionGrammar, SpellsSession, SpellsStart, SpellsTry, StartGrammar}
unfoldable pub use Rattle.krieg_umpire.specs.SessionText.{session_text}
pub use Rattle.krieg_umpire.specs.SessionText.{event_line, last_text, session_lines}
pub use Rattle.krieg_umpire.specs.Sessions.{SessionState}
unfoldable pub use Rattle.krieg_umpire.specs.Telling.{heard_lines}
pub use Rattle.krieg_umpire.specs.Telling.{both_lines, if_of, lines_of, marked_line, players_line, sheet_of, umpire_text}
unfoldable pub use Rattle.krieg_umpire.specs.Verdicts.{verdict}
pub use Rattle.krieg_umpire.specs.Verdicts.{next, position_after}
pub use Rattle.krieg_umpire.specs.declared.reading.SessionLine.{SessionLine}
pub use Rattle.krieg_umpire.specs.declared.reading.SessionLine.TheVariants.{Last, Try}
pub use Rattle.krieg_umpire.specs.declared.verdict.Event.{Event}
pub use Rattle.krieg_umpire.specs.declared.verdict.Judged.{Judged}
pub use Rattle.krieg_umpire.specs.declared.verdict.Stop.{Stop}
pub use Rattle.krieg_umpire.specs.declared.verdict.Stop.TheVariants.{AsksUsed, Ended, Left}
pub use Rattle.krieg_umpire.specs.declared.verdict.Verdict.{Verdict}
pub use Rattle.krieg_umpire.specs.declared.verdict.Verdict.TheVariants.{Done, Early, Illegal, Over}

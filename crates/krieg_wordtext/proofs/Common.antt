-- The words of specs/, of this crate and of those below it, that its proofs cite: passed on from one place.
pub use Rattle.krieg_board.specs.declared.men.Move.{Move}
pub use Rattle.krieg_text.specs.Decimals.{number_between, number_text}
pub use Rattle.krieg_text.specs.Formats.{Always}
pub use Rattle.krieg_text.specs.Forms.{version_form}
pub use Rattle.krieg_text.specs.Languages.{Language, One}
pub use Rattle.krieg_text.specs.Lines.{AreLines, is_line}
unfoldable pub use Rattle.krieg_text.specs.Names.{behind}
pub use Rattle.krieg_text.specs.Names.{cut}
pub use Rattle.krieg_text.specs.Outcomes.{◌>>=◌}
pub use Rattle.krieg_text.specs.Reading.{Place, place}
pub use Rattle.krieg_text.specs.declared.fault.TextFault.{TextFault}
pub use Rattle.krieg_text.specs.declared.fault.TextKind.TheVariants.{Version}
pub use Rattle.krieg_text.specs.declared.number.NumberFault.{NumberFault}
unfoldable pub use Rattle.krieg_fen.specs.MoveText.{move_text}
pub use Rattle.krieg_fen.specs.MoveText.{IsOnBoard, move_of, square_text}
pub use Rattle.krieg_words.specs.Dialects.{dialect_of, dialect_rules, dialect_text, unnamed_dialect}
pub use Rattle.krieg_words.specs.Kinds.{bits_of}
unfoldable pub use Rattle.krieg_wordtext.specs.Line.{line_text}
pub use Rattle.krieg_wordtext.specs.Line.{IsLine, LineFits, told_line}
unfoldable pub use Rattle.krieg_wordtext.specs.LineReading.{line_in}
pub use Rattle.krieg_wordtext.specs.LineReading.{done_in, heard_in, judged_in, opens_in, tried_in, try_in}
pub use Rattle.krieg_wordtext.specs.Parts.{Part, PartsReader, after_gap, front, joined_by, left_by, no_more, part_then, past, piece, text_if, texts, with}
pub use Rattle.krieg_words.specs.ToldWords.{Fits, checks_told, no_kinds, silent, some_kind, took_told, tries_told}
unfoldable pub use Rattle.krieg_wordtext.specs.Versions.{dialect_form, version_at}
pub use Rattle.krieg_wordtext.specs.Versions.{SpellVersion, dialect_at, dialect_behind, dialect_line, dialect_or_syntax, lines_of_version, second_version, version_lines}
pub use Rattle.krieg_words.specs.Words.{IsSaid, IsTaken, Said}
unfoldable pub use Rattle.krieg_wordtext.specs.WordsReading.{parts_in, words_in}
pub use Rattle.krieg_wordtext.specs.WordsReading.{checks_in, checks_named, count_in, end_in, kinds_of, name_then, names_in, number_in, pawn_or_piece, read_parts, said_of, square_in, took_in, tries_in}
unfoldable pub use Rattle.krieg_wordtext.specs.WordsText.{words_text}
pub use Rattle.krieg_wordtext.specs.WordsText.{are_tries, checks_text, end_text, has_ended, is_capture, is_check, kind_names, spelled, took_text, tries_text, words_parts}
pub use Rattle.krieg_words.specs.declared.dialects.ChecksTold.{ChecksTold}
pub use Rattle.krieg_words.specs.declared.dialects.ChecksTold.TheVariants.{Bare, ByKind}
pub use Rattle.krieg_words.specs.declared.dialects.Dialect.{Dialect}
pub use Rattle.krieg_words.specs.declared.dialects.Dialect.TheVariants.{Anytry, Plain, Wild16}
pub use Rattle.krieg_words.specs.declared.dialects.MenTold.{MenTold}
pub use Rattle.krieg_words.specs.declared.dialects.MenTold.TheVariants.{Alike, Apart}
pub use Rattle.krieg_words.specs.declared.dialects.TextVersion.{TextVersion}
pub use Rattle.krieg_words.specs.declared.dialects.TextVersion.TheVariants.{First, Second}
pub use Rattle.krieg_words.specs.declared.dialects.TriesTold.{TriesTold}
pub use Rattle.krieg_words.specs.declared.dialects.TriesTold.TheVariants.{Any, Number, Untold}
pub use Rattle.krieg_words.specs.declared.kinds.Kinds.{Kinds}
pub use Rattle.krieg_wordtext.specs.declared.line.Line.{Line}
pub use Rattle.krieg_wordtext.specs.declared.line.Line.TheVariants.{Done, Early, Heard, Illegal, Opens, Over}
pub use Rattle.krieg_words.specs.declared.words.End.{End}
pub use Rattle.krieg_words.specs.declared.words.End.TheVariants.{Goes, Mate, Stalemate}
pub use Rattle.krieg_words.specs.declared.words.TheConstants.{MOST_TRIES}
pub use Rattle.krieg_words.specs.declared.words.Took.{Took}
pub use Rattle.krieg_words.specs.declared.words.Took.TheVariants.{Piece}

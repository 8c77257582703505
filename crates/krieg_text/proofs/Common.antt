-- The words of specs/, of this crate and of those below it, that its proofs cite: passed on from one place.
pub use Rattle.krieg_text.specs.Decimals.{is_plain, number_between, number_text, plain_value}
pub use Rattle.krieg_text.specs.FirstBad.{FirstBad, GoesOn, Has, IsFormed, IsGoodTo, is_beyond_form}
pub use Rattle.krieg_text.specs.Formats.{Always, IsReading, behind_or, named, one_of}
unfoldable pub use Rattle.krieg_text.specs.Forms.{number_form}
pub use Rattle.krieg_text.specs.Forms.{number_behind, ranged}
pub use Rattle.krieg_text.specs.Languages.{Any, Begins, Behind, Language, Many, Nothing, One, Then, UpToLast, ◌⨾◌}
pub use Rattle.krieg_text.specs.Lines.{AreLines, EndsFull, EndsLines, ended_line, is_line, lines, onto_line, with_ends}
unfoldable pub use Rattle.krieg_text.specs.Names.{behind, cut_last}
pub use Rattle.krieg_text.specs.Names.{cut, onto_front}
pub use Rattle.krieg_text.specs.Outcomes.{◌>>=◌}
pub use Rattle.krieg_text.specs.OwnedLines.{HaveBytes, behind_line, lines_back}
pub use Rattle.krieg_text.specs.Pieces.{pieces}
pub use Rattle.krieg_text.specs.Reading.{Gives, GivesOn, IsRefusedAt, LineReader, Passed, Place, Step, ended, goes_on, line_at, next_line, on, place, stops, taken, up_to_last, whole}
pub use Rattle.krieg_text.specs.Writing.{Pieces, alone, joined, put, put_lines}
pub use Rattle.krieg_text.specs.declared.fault.TextFault.{TextFault}
pub use Rattle.krieg_text.specs.declared.fault.TextFault.TheVariants.{At, NoMemory}
pub use Rattle.krieg_text.specs.declared.fault.TextKind.{TextKind}
pub use Rattle.krieg_text.specs.declared.fault.TextKind.TheVariants.{Syntax}
pub use Rattle.krieg_text.specs.declared.number.NumberFault.{NumberFault}
pub use Rattle.krieg_text.specs.declared.number.NumberFault.TheVariants.{NotPlain, OutOfRange}

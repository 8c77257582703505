-- The words of specs/, of this crate and of those below it, that its proofs cite: passed on from one place.
pub use Rattle.krieg_text.specs.Decimals.{number_text}
pub use Rattle.krieg_text.specs.FirstBad.{Has, IsFormed, is_beyond_form}
pub use Rattle.krieg_text.specs.Formats.{Always, IsReading}
unfoldable pub use Rattle.krieg_text.specs.Forms.{number_form}
pub use Rattle.krieg_text.specs.Forms.{word_form}
pub use Rattle.krieg_text.specs.Languages.{Any, Language, Nothing, One, ◌⨾◌}
pub use Rattle.krieg_text.specs.Lines.{AreLines, is_line, lines}
pub use Rattle.krieg_text.specs.Outcomes.{◌>>=◌}
pub use Rattle.krieg_text.specs.Reading.{Gives, GivesOn, LineReader, Place, place, taken, whole}
pub use Rattle.krieg_text.specs.Writing.{Pieces, joined, put_lines}
pub use Rattle.krieg_text.specs.declared.fault.TextFault.{TextFault}
pub use Rattle.krieg_text.specs.declared.fault.TextFault.TheVariants.{At, NoMemory}
pub use Rattle.krieg_text.specs.declared.fault.TextKind.{TextKind}
pub use Rattle.krieg_text.specs.declared.fault.TextKind.TheVariants.{Syntax}
pub use Rattle.krieg_format.specs.Descriptions.{Format, Power, also, counted, line, made, times, told}
pub use Rattle.krieg_format.specs.Lines.{Line, formed, literal, number_line, telling, tested, unless, which}
pub use Rattle.krieg_format.specs.Readers.{read_then, reader, repeated}
pub use Rattle.krieg_format.specs.Tables.{Each, table}
pub use Rattle.krieg_format.specs.Written.{EachFits, Fits, each_text, written}

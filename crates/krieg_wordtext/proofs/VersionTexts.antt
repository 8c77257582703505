-- No line of the first lines of a text has a line feed.
use Rattle.std.proofs.Common.{◌≡◌, true, ℕ, List, refl}
use Rattle.std.specs.Prelude.{codes}
use Rattle.krieg_wordtext.proofs.Common.{is_line, AreLines, Dialect, Wild16, Anytry, Plain, TextVersion, First, Second, dialect_rules, dialect_line, lines_of_version, version_lines}
use Rattle.krieg_text.proofs.LineTexts.{line_append}

dialect_is_line : (d : Dialect) → is_line (dialect_line d) ≡ true
dialect_is_line Wild16 = refl
dialect_is_line Anytry = refl
dialect_is_line Plain = refl

pub version_are : (name : List ℕ) (d : Dialect) → is_line name ≡ true → AreLines (version_lines name d)
version_are name d free = by_version (dialect_rules d).version
  where
    by_version : (v : TextVersion) → AreLines (lines_of_version v name d)
    by_version First = (line_append name (codes "1") free refl, tt)
    by_version Second = (line_append name (codes "2") free refl, (dialect_is_line d, tt))

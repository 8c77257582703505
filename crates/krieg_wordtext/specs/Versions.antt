-- The first lines of a text in one of two versions, which tell the dialect of its words.
use Rattle.std.specs.Prelude.{◌≡◌, ◌⊎◌, ℕ, ◌==◌, List, [], ◌∷◌, ◌++◌, codes, Option, Some, None, Result, Ok, Err, if◌then◌else◌}
use Rattle.krieg_text.specs.declared.fault.TextKind.{TextKind}
use Rattle.krieg_text.specs.declared.fault.TextKind.TheVariants.{Syntax}
use Rattle.krieg_text.specs.Names.{behind}
use Rattle.krieg_text.specs.Outcomes.{◌>>=◌}
use Rattle.krieg_text.specs.Forms.{version_form}
use Rattle.krieg_text.specs.Reading.{LineReader, taken}
use Rattle.krieg_words.specs.declared.dialects.Dialect.{Dialect}
use Rattle.krieg_words.specs.declared.dialects.TextVersion.{TextVersion}
use Rattle.krieg_words.specs.declared.dialects.TextVersion.TheVariants.{First, Second}
use Rattle.krieg_words.specs.Dialects.{dialect_rules, dialect_text, dialect_of, unnamed_dialect}

-- the line that names a dialect
abbrev pub dialect_line : Dialect → List ℕ
dialect_line d = codes "dialect " ++ dialect_text d

-- version 1 names no dialect
abbrev pub first_version : List ℕ → List (List ℕ)
first_version name = (name ++ codes "1") ∷ []

-- version 2 names the dialect in its second line
abbrev pub second_version : List ℕ → Dialect → List (List ℕ)
second_version name d = (name ++ codes "2") ∷ dialect_line d ∷ []

-- the first lines of a text of that version
abbrev pub lines_of_version : TextVersion → List ℕ → Dialect → List (List ℕ)
lines_of_version First name d = first_version name
lines_of_version Second name d = second_version name d

-- the first lines of a text, after a format's name, in the version of the dialect
abbrev pub version_lines : List ℕ → Dialect → List (List ℕ)
version_lines name d = lines_of_version (dialect_rules d).version name d

-- the written form, or version 2, in which every dialect may be
abbrev pub SpellVersion : List ℕ → List (List ℕ) → Dialect → Type 0
SpellVersion name ls d = (ls ≡ version_lines name d) ⊎ (ls ≡ second_version name d)

-- The same lines, read.

abbrev pub dialect_or_syntax : Option Dialect → Result Dialect TextKind
dialect_or_syntax None = Err Syntax
dialect_or_syntax (Some d) = Ok d

-- the dialect of the name behind `dialect`
abbrev pub dialect_behind : Option (List ℕ) → Result Dialect TextKind
dialect_behind None = Err Syntax
dialect_behind (Some name) = dialect_or_syntax (dialect_of name)

-- the dialect that a line names
unfoldable pub dialect_form : List ℕ → Result Dialect TextKind
dialect_form line = dialect_behind (behind (codes "dialect ") line)

-- version 1 is in one dialect without a line that says so; in every other version the next line names the dialect
abbrev pub dialect_at : ℕ → LineReader Dialect
dialect_at version p = if version == 1 then Ok (unnamed_dialect, p) else taken dialect_form p

-- a format's name with one of its two versions, and the dialect
unfoldable pub version_at : List ℕ → LineReader Dialect
version_at name p = do
  version ← taken (version_form name 2) p
  dialect_at version.0 version.1

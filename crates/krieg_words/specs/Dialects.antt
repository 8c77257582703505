-- The dialects: what each of them tells, and how it is written.
use Rattle.std.specs.Prelude.{ℕ, List, codes, Option, Some, None, if◌then◌else◌}
use Rattle.std.specs.Str.{bytes_eq}
use Rattle.krieg_words.specs.declared.dialects.Dialect.{Dialect}
use Rattle.krieg_words.specs.declared.dialects.Dialect.TheVariants.{Wild16, Anytry, Plain}
use Rattle.krieg_words.specs.declared.dialects.DialectRules.{DialectRules}
use Rattle.krieg_words.specs.declared.dialects.MenTold.TheVariants.{Apart, Alike}
use Rattle.krieg_words.specs.declared.dialects.ChecksTold.TheVariants.{ByKind, Bare}
use Rattle.krieg_words.specs.declared.dialects.TriesTold.TheVariants.{Number, Any, Untold}
use Rattle.krieg_words.specs.declared.dialects.TextVersion.TheVariants.{First, Second}

-- wild16 tells all; anytry tells of tries only whether there are any; plain tells no tries, and of captures and checks only where and whether
abbrev pub dialect_rules : Dialect → DialectRules
dialect_rules Wild16 = record { men = Apart; checks = ByKind; tries = Number; version = First }
dialect_rules Anytry = record { men = Apart; checks = ByKind; tries = Any; version = Second }
dialect_rules Plain = record { men = Alike; checks = Bare; tries = Untold; version = Second }

-- its name
abbrev pub dialect_text : Dialect → List ℕ
dialect_text Wild16 = codes "wild16"
dialect_text Anytry = codes "anytry"
dialect_text Plain = codes "plain"

-- the dialect of that name
abbrev pub dialect_of : List ℕ → Option Dialect
dialect_of text =
    if bytes_eq text (dialect_text Wild16) then Some Wild16
    else (if bytes_eq text (dialect_text Anytry) then Some Anytry
    else (if bytes_eq text (dialect_text Plain) then Some Plain else None))

-- the dialect of a text of version 1, which names none
abbrev pub unnamed_dialect : Dialect
unnamed_dialect = Wild16

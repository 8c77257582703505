-- The forms of lines with a number and of lines of one word: what each gives, or the kind of its fault.
use Rattle.std.specs.Prelude.{ℕ, List, Option, Some, None, Result, Ok, Err, if◌then◌else◌}
use Rattle.std.specs.Str.{bytes_eq}
use Rattle.krieg_text.specs.declared.fault.TextKind.{TextKind}
use Rattle.krieg_text.specs.declared.fault.TextKind.TheVariants.{Version, Syntax, Count}
use Rattle.krieg_text.specs.declared.number.NumberFault.{NumberFault}
use Rattle.krieg_text.specs.declared.number.NumberFault.TheVariants.{NotPlain, OutOfRange}
use Rattle.krieg_text.specs.Names.{behind}
use Rattle.krieg_text.specs.Decimals.{number_between}

-- no plain decimal is syntax, and one out of range is of the kind that the line names
abbrev pub ranged : TextKind → Result ℕ NumberFault → Result ℕ TextKind
ranged outside (Ok n) = Ok n
ranged outside (Err NotPlain) = Err Syntax
ranged outside (Err OutOfRange) = Err outside

-- a number in a range behind a name, or the kind of fault where it is outside; syntax where the name is missing
abbrev pub number_behind : TextKind → ℕ → ℕ → Option (List ℕ) → Result ℕ TextKind
number_behind outside least most None = Err Syntax
number_behind outside least most (Some text) = ranged outside (number_between text least most)

-- a plain decimal within a range after a name
unfoldable pub number_form : TextKind → List ℕ → ℕ → ℕ → List ℕ → Result ℕ TextKind
number_form outside name least most text = number_behind outside least most (behind name text)

-- a format's name and its version, of which there are as many as newest says
abbrev pub version_form : List ℕ → ℕ → List ℕ → Result ℕ TextKind
version_form name newest text = number_form Version name 1 newest text

-- a name and a number of things
abbrev pub count_form : List ℕ → ℕ → ℕ → List ℕ → Result ℕ TextKind
count_form name least most text = number_form Count name least most text

-- this word and no other
abbrev pub word_form : List ℕ → List ℕ → Result (Unit {0}) TextKind
word_form word text = if bytes_eq text word then Ok tt else Err Syntax

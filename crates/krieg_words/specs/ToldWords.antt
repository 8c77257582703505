-- What is told of words in each dialect.
use Rattle.std.specs.Prelude.{◌≡◌, ℕ, ◌==◌, true, false, if◌then◌else◌}
use Rattle.krieg_words.specs.Kinds.{bits_of}
use Rattle.krieg_words.specs.declared.kinds.Kinds.{Kinds}
use Rattle.krieg_words.specs.declared.words.End.TheVariants.{Goes}
use Rattle.krieg_words.specs.declared.words.Took.{Took}
use Rattle.krieg_words.specs.declared.words.Took.TheVariants.{Nothing, Pawn, Piece}
use Rattle.krieg_words.specs.declared.dialects.Dialect.{Dialect}
use Rattle.krieg_words.specs.declared.dialects.MenTold.{MenTold}
use Rattle.krieg_words.specs.declared.dialects.MenTold.TheVariants.{Apart, Alike}
use Rattle.krieg_words.specs.declared.dialects.ChecksTold.{ChecksTold}
use Rattle.krieg_words.specs.declared.dialects.ChecksTold.TheVariants.{ByKind, Bare}
use Rattle.krieg_words.specs.declared.dialects.TriesTold.{TriesTold}
use Rattle.krieg_words.specs.declared.dialects.TriesTold.TheVariants.{Number, Any, Untold}
use Rattle.krieg_words.specs.Words.{Said}
use Rattle.krieg_words.specs.Dialects.{dialect_rules}

-- the square of a capture without the kind of man, told as of a piece
abbrev pub as_piece : Took → Took
as_piece Nothing = Nothing
as_piece (Pawn s) = Piece s
as_piece (Piece s) = Piece s

-- what is told of a capture
abbrev pub took_told : MenTold → Took → Took
took_told Apart took = took
took_told Alike took = as_piece took

-- no check
abbrev pub no_kinds : Kinds
no_kinds = record { knight = false; short = false; long = false; rank = false; file = false }

-- what is heard where there is nothing to say, and the game goes on
abbrev pub silent : Said
silent = record { end = Goes; took = Nothing; checks = no_kinds; tries = 0 }

-- the kinds whose number is 1
abbrev pub some_kind : Kinds
some_kind = record { knight = false; short = false; long = false; rank = false; file = true }

-- what is told of checks: that there is one, without its kinds, is told as one on a file
abbrev pub checks_told : ChecksTold → Kinds → Kinds
checks_told ByKind k = k
checks_told Bare k = if bits_of k == 0 then no_kinds else some_kind

-- what is told of pawn tries: that there are any is told as one
abbrev pub tries_told : TriesTold → ℕ → ℕ
tries_told Number n = n
tries_told Any n = if n == 0 then 0 else 1
tries_told Untold n = 0

-- the words as the dialect tells them
abbrev pub told : Dialect → Said → Said
told d w = record {
  end = w.end;
  took = took_told (dialect_rules d).men w.took;
  checks = checks_told (dialect_rules d).checks w.checks;
  tries = tries_told (dialect_rules d).tries w.tries;
}

-- words that the dialect can tell
abbrev pub Fits : Dialect → Said → Type 0
Fits d w = told d w ≡ w

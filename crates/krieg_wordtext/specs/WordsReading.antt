-- The words that a text spells in a dialect, part by part. A comma is byte 44, `+` is 43.
use Rattle.std.specs.Prelude.{ℕ, Bool, List, [], codes, Option, Some, None, Result, Ok, Err, unwrap_or, if◌then◌else◌}
use Rattle.std.specs.Str.{bytes_eq}
use Rattle.std.specs.Option.{option_map}
use Rattle.krieg_text.specs.Names.{behind}
use Rattle.krieg_text.specs.Decimals.{number_between}
use Rattle.krieg_fen.specs.MoveText.{square_named}
use Rattle.krieg_text.specs.declared.number.NumberFault.{NumberFault}
use Rattle.krieg_words.specs.declared.kinds.Kinds.{Kinds}
use Rattle.krieg_words.specs.declared.words.End.{End}
use Rattle.krieg_words.specs.declared.words.End.TheVariants.{Goes, Mate, Stalemate}
use Rattle.krieg_words.specs.declared.words.Took.{Took}
use Rattle.krieg_words.specs.declared.words.Took.TheVariants.{Nothing, Pawn, Piece}
use Rattle.krieg_words.specs.declared.dialects.Dialect.{Dialect}
use Rattle.krieg_words.specs.declared.dialects.MenTold.{MenTold}
use Rattle.krieg_words.specs.declared.dialects.MenTold.TheVariants.{Apart, Alike}
use Rattle.krieg_words.specs.declared.dialects.ChecksTold.{ChecksTold}
use Rattle.krieg_words.specs.declared.dialects.ChecksTold.TheVariants.{ByKind, Bare}
use Rattle.krieg_words.specs.declared.dialects.TriesTold.{TriesTold}
use Rattle.krieg_words.specs.declared.dialects.TriesTold.TheVariants.{Number, Any, Untold}
use Rattle.krieg_words.specs.Words.{Said}
use Rattle.krieg_words.specs.declared.words.TheConstants.{MOST_TRIES}
use Rattle.krieg_words.specs.Dialects.{dialect_rules}
use Rattle.krieg_words.specs.ToldWords.{no_kinds, some_kind, silent}
use Rattle.krieg_wordtext.specs.Parts.{PartsReader, no_more, part_then}
use Rattle.krieg_wordtext.specs.WordsText.{is_capture, is_check, are_tries, has_ended}

-- What each part tells: nothing where the text is not of its form.

-- the square after the name
abbrev pub square_in : Option (List ℕ) → Option ℕ
square_in None = None
square_in (Some text) = square_named text

-- the capture of a pawn or of a piece, by the square that was found
abbrev pub pawn_or_piece : Option ℕ → Option ℕ → Took
pawn_or_piece (Some s) piece = Pawn s
pawn_or_piece None (Some s) = Piece s
pawn_or_piece None None = Nothing

-- the capture that a part tells, or nothing
abbrev pub took_in : MenTold → List ℕ → Took
took_in Apart part = pawn_or_piece (square_in (behind (codes "pawn ") part)) (square_in (behind (codes "piece ") part))
took_in Alike part = pawn_or_piece None (square_in (behind (codes "took ") part))

-- the name, and the names after it, which are joined by `+`
abbrev pub name_then : {B : Type 0} → List ℕ → PartsReader B → PartsReader (Bool × B)
name_then name others rest = part_then 43 [] (λ part. bytes_eq part name) (λ here. here) others rest

-- five answers as kinds of check
abbrev pub kinds_of : Bool × (Bool × (Bool × (Bool × (Bool × Unit {0})))) → Kinds
kinds_of x = record { file = x.0; rank = x.1.0; long = x.1.1.0; short = x.1.1.1.0; knight = x.1.1.1.1.0 }

-- the kinds of check in their order
abbrev pub names_in : Option (List ℕ) → Option Kinds
names_in names = option_map kinds_of
    (name_then (codes "file") (name_then (codes "rank") (name_then (codes "long") (name_then (codes "short") (name_then (codes "knight") no_more)))) names)

-- the kinds of these names, or none where they are no names
abbrev pub checks_named : Option (List ℕ) → Kinds
checks_named None = no_kinds
checks_named (Some names) = unwrap_or (names_in (Some names)) no_kinds

-- the checks that a part tells, or none
abbrev pub checks_in : ChecksTold → List ℕ → Kinds
checks_in ByKind part = checks_named (behind (codes "check ") part)
checks_in Bare part = if bytes_eq part (codes "check") then some_kind else no_kinds

-- the number, or 0 where it is none
abbrev pub number_in : Result ℕ NumberFault → ℕ
number_in (Ok n) = n
number_in (Err fault) = 0

-- a number from 1 to the most tries
abbrev pub count_in : Option (List ℕ) → ℕ
count_in None = 0
count_in (Some text) = number_in (number_between text 1 MOST_TRIES)

-- the pawn tries that a part tells, or 0
abbrev pub tries_in : TriesTold → List ℕ → ℕ
tries_in Number part = count_in (behind (codes "tries ") part)
tries_in Any part = if bytes_eq part (codes "tries some") then 1 else 0
tries_in Untold part = 0

-- the end that a part tells, or that the game goes on
abbrev pub end_in : List ℕ → End
end_in part = if bytes_eq part (codes "mate") then Mate else (if bytes_eq part (codes "stalemate") then Stalemate else Goes)

-- each part in its place, where it is there
abbrev pub read_parts : MenTold → ChecksTold → TriesTold → PartsReader (Took × (Kinds × (ℕ × (End × Unit {0}))))
read_parts men checks tries rest =
    part_then 44 (codes " ") (took_in men) is_capture
    (part_then 44 (codes " ") (checks_in checks) is_check
    (part_then 44 (codes " ") (tries_in tries) (are_tries tries)
    (part_then 44 (codes " ") end_in has_ended no_more))) rest

-- four parts as words
abbrev pub said_of : Took × (Kinds × (ℕ × (End × Unit {0}))) → Said
said_of x = record { took = x.0; checks = x.1.0; tries = x.1.1.0; end = x.1.1.1.0 }

-- the words that the parts of a text tell in a dialect, if they do
unfoldable pub parts_in : Dialect → List ℕ → Option Said
parts_in d text = option_map said_of (read_parts (dialect_rules d).men (dialect_rules d).checks (dialect_rules d).tries (Some text))

-- the words of a text in a dialect, if it spells some
unfoldable pub words_in : Dialect → List ℕ → Option Said
words_in d text = if bytes_eq text (codes "silent") then Some silent else parts_in d text

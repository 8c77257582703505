-- The text of words in each dialect.
use Rattle.std.specs.Prelude.{ℕ, Bool, true, false, ◌==◌, not, List, [], ◌∷◌, ◌++◌, codes}
use Rattle.krieg_text.specs.Decimals.{number_text}
use Rattle.krieg_fen.specs.MoveText.{square_text}
use Rattle.krieg_words.specs.Kinds.{bits_of}
use Rattle.krieg_words.specs.declared.kinds.Kinds.{Kinds}
use Rattle.krieg_words.specs.declared.words.End.{End}
use Rattle.krieg_words.specs.declared.words.End.TheVariants.{Goes, Mate, Stalemate}
use Rattle.krieg_words.specs.declared.words.Took.{Took}
use Rattle.krieg_words.specs.declared.words.Took.TheVariants.{Nothing, Pawn, Piece}
use Rattle.krieg_words.specs.declared.dialects.Dialect.{Dialect}
use Rattle.krieg_words.specs.declared.dialects.MenTold.{MenTold}
use Rattle.krieg_words.specs.declared.dialects.MenTold.TheVariants.{Apart, Alike}
use Rattle.krieg_words.specs.declared.dialects.ChecksTold.{ChecksTold}
use Rattle.krieg_words.specs.declared.dialects.ChecksTold.TheVariants.{ByKind, Bare}
use Rattle.krieg_words.specs.declared.dialects.TriesTold.{TriesTold}
use Rattle.krieg_words.specs.declared.dialects.TriesTold.TheVariants.{Number, Any, Untold}
use Rattle.krieg_words.specs.Words.{Said}
use Rattle.krieg_words.specs.Dialects.{dialect_rules}
use Rattle.krieg_wordtext.specs.Parts.{Part, texts, joined_by}

-- what stands before the square of a captured pawn
abbrev pub pawn_name : MenTold → List ℕ
pawn_name Apart = codes "pawn "
pawn_name Alike = codes "took "

-- what stands before the square of a captured piece
abbrev pub piece_name : MenTold → List ℕ
piece_name Apart = codes "piece "
piece_name Alike = codes "took "

-- what was captured, and where
abbrev pub took_text : MenTold → Took → List ℕ
took_text men Nothing = []
took_text men (Pawn s) = pawn_name men ++ square_text s
took_text men (Piece s) = piece_name men ++ square_text s

-- something was taken
abbrev pub is_capture : Took → Bool
is_capture Nothing = false
is_capture (Pawn s) = true
is_capture (Piece s) = true

-- the names of the kinds of check that hold, in their order
abbrev pub kind_names : Kinds → List (List ℕ)
kind_names k = texts ((k.file, codes "file") ∷ (k.rank, codes "rank") ∷ (k.long, codes "long") ∷ (k.short, codes "short") ∷ (k.knight, codes "knight") ∷ [])

-- the part that names a check
abbrev pub checks_text : ChecksTold → Kinds → List ℕ
checks_text ByKind k = codes "check " ++ joined_by (codes "+") (kind_names k)
checks_text Bare k = codes "check"

-- there is a check
abbrev pub is_check : Kinds → Bool
is_check k = not (bits_of k == 0)

-- the part that tells pawn tries
abbrev pub tries_text : TriesTold → ℕ → List ℕ
tries_text Number n = codes "tries " ++ number_text n
tries_text Any n = codes "tries some"
tries_text Untold n = []

-- there are pawn tries, and they are told
abbrev pub are_tries : TriesTold → ℕ → Bool
are_tries Number n = not (n == 0)
are_tries Any n = not (n == 0)
are_tries Untold n = false

-- the part that tells the end
abbrev pub end_text : End → List ℕ
end_text Goes = []
end_text Mate = codes "mate"
end_text Stalemate = codes "stalemate"

-- the game has ended
abbrev pub has_ended : End → Bool
has_ended Goes = false
has_ended Mate = true
has_ended Stalemate = true

-- the parts in their order: what was captured, the kinds of check, the tries, and the end, each where there is something to tell
abbrev pub words_parts : Dialect → Said → List Part
words_parts d w =
    (is_capture w.took, took_text (dialect_rules d).men w.took)
    ∷ (is_check w.checks, checks_text (dialect_rules d).checks w.checks)
    ∷ (are_tries (dialect_rules d).tries w.tries, tries_text (dialect_rules d).tries w.tries)
    ∷ (has_ended w.end, end_text w.end)
    ∷ []

-- joined by a comma and a space, or `silent` where there is no part
abbrev pub spelled : List (List ℕ) → List ℕ
spelled [] = codes "silent"
spelled (p ∷ ps) = joined_by (codes ", ") (p ∷ ps)

-- the one text of the words in a dialect
unfoldable pub words_text : Dialect → Said → List ℕ
words_text d w = spelled (texts (words_parts d w))

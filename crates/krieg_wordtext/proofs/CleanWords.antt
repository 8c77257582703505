-- The bytes of the texts of words and lines: none is below a space or a slash, and no part of words has a comma.
use Rattle.std.proofs.Common.{◌≡◌, ℕ, ◌<◌, ◌≤◌, ◌^◌, Bool, true, false, not, ◌&&◌, eqb, leb, List, [], ◌∷◌, ◌++◌, refl, arith}
use Rattle.std.specs.Prelude.{codes}
use Rattle.std.specs.List.{list_all}
use Rattle.std.proofs.lemmas.Bool.{and_parts, and_from, leb-true, le-leb, ne_eqb}
use Rattle.krieg_wordtext.proofs.Common.{Move, Kinds, number_text, square_text, move_text, End, Goes, Mate, Stalemate, Took, Piece, Dialect, MenTold, Apart, Alike, ChecksTold, ByKind, Bare, TriesTold, Number, Any, Untold, Line, Opens, Illegal, Done, Heard, Early, Over, Said, IsSaid, MOST_TRIES, dialect_rules, Part, text_if, texts, joined_by, took_text, kind_names, checks_text, tries_text, end_text, words_parts, spelled, words_text, line_text, IsLine}
use Rattle.krieg_text.proofs.Free.{Above, above_less}
use Rattle.krieg_fen.proofs.CleanTexts.{square_above, move_above}
use Rattle.krieg_text.proofs.CleanTexts.{number_above}
use Rattle.krieg_words.specs.declared.words.Took.TheVariants.{Nothing, Pawn}
use Rattle.krieg_wordtext.proofs.PartLaws.{Free}

-- every byte passes
abbrev pub Has : (ℕ → Bool) → List ℕ → Type 0
Has test text = list_all test text ≡ true

append_has : (test : ℕ → Bool) (xs ys : List ℕ) → Has test xs → Has test ys → Has test (xs ++ ys)
append_has test [] ys h k = k
append_has test (x ∷ xs) ys h k =
    let p = and_parts (test x) (list_all test xs) h in
    and_from (test x) (list_all test (xs ++ ys)) p.0 (append_has test xs ys p.1 k)

weaker : (test other : ℕ → Bool) → ((b : ℕ) → test b ≡ true → other b ≡ true) → (text : List ℕ) → Has test text → Has other text
weaker test other also [] h = refl
weaker test other also (b ∷ text) h =
    let p = and_parts (test b) (list_all test text) h in
    and_from (other b) (list_all other text) (also b p.0) (weaker test other also text p.1)

-- texts that pass, and the texts of parts that do
abbrev AllHold : (ℕ → Bool) → List (List ℕ) → Type 0
AllHold test [] = Unit {0}
AllHold test (t ∷ ts) = Has test t × AllHold test ts

abbrev AllHave : (ℕ → Bool) → List Part → Type 0
AllHave test [] = Unit {0}
AllHave test (p ∷ ps) = Has test p.1 × AllHave test ps

joined_has : (test : ℕ → Bool) (separator : List ℕ) (ts : List (List ℕ)) → Has test separator → AllHold test ts → Has test (joined_by separator ts)
joined_has test separator [] h k = refl
joined_has test separator (t ∷ []) h k = k.0
joined_has test separator (t ∷ u ∷ ts) h k = append_has test t (separator ++ joined_by separator (u ∷ ts)) k.0 (append_has test separator (joined_by separator (u ∷ ts)) h (joined_has test separator (u ∷ ts) h k.1))

texts_have : (test : ℕ → Bool) (ps : List Part) → AllHave test ps → AllHold test (texts ps)
texts_have test [] h = tt
texts_have test (p ∷ ps) h = by_test p.0 (texts_have test ps h.1)
  where
    by_test : (t : Bool) → AllHold test (texts ps) → AllHold test (text_if t p.1 ++ texts ps)
    by_test true rest = (h.0, rest)
    by_test false rest = rest

-- no byte below a space, and no slash
abbrev pub is_words_byte : ℕ → Bool
is_words_byte b = leb 32 b && not (eqb b 47)

-- nor a comma
abbrev pub is_part_byte : ℕ → Bool
is_part_byte b = is_words_byte b && not (eqb b 44)

-- such a text has no comma
pub part_free : (text : List ℕ) → Has is_part_byte text → Free 44 text
part_free text h = weaker is_part_byte (λ b. not (eqb b 44)) (λ b k. (and_parts (is_words_byte b) (not (eqb b 44)) k).1) text h

above_has : (text : List ℕ) → Above 47 text → Has is_part_byte text
above_has [] h = refl
above_has (b ∷ text) h =
    let above : 47 < b = h.0 in
    rw (le-leb 32 b (omega arith), ne_eqb b 47 (λ e. absurd (omega arith)), ne_eqb b 44 (λ e. absurd (omega arith))) (above_has text h.1)

square_has : (s : ℕ) → Has is_part_byte (square_text s)
square_has s = above_has (square_text s) (above_less 47 48 (square_text s) (omega arith) (square_above s))

pub took_has : (men : MenTold) (t : Took) → Has is_part_byte (took_text men t)
took_has men Nothing = refl
took_has Apart (Pawn s) = square_has s
took_has Apart (Piece s) = square_has s
took_has Alike (Pawn s) = square_has s
took_has Alike (Piece s) = square_has s

pub checks_have : (checks : ChecksTold) (k : Kinds) → Has is_part_byte (checks_text checks k)
checks_have ByKind k =
    joined_has is_part_byte (codes "+") (kind_names k) refl
    (texts_have is_part_byte ((k.file, codes "file") ∷ (k.rank, codes "rank") ∷ (k.long, codes "long") ∷ (k.short, codes "short") ∷ (k.knight, codes "knight") ∷ []) (refl, (refl, (refl, (refl, (refl, tt))))))
checks_have Bare k = refl

pub tries_have : (tries : TriesTold) (n : ℕ) → n ≤ MOST_TRIES → Has is_part_byte (tries_text tries n)
tries_have Number n few = let small : n < 2 ^ 64 = omega arith in above_has (number_text n) (number_above n small)
tries_have Any n few = refl
tries_have Untold n few = refl

pub end_has : (e : End) → Has is_part_byte (end_text e)
end_has Goes = refl
end_has Mate = refl
end_has Stalemate = refl

as_words : (text : List ℕ) → Has is_part_byte text → Has is_words_byte text
as_words text h = weaker is_part_byte is_words_byte (λ b k. (and_parts (is_words_byte b) (not (eqb b 44)) k).0) text h

spelled_has : (ts : List (List ℕ)) → AllHold is_words_byte ts → Has is_words_byte (spelled ts)
spelled_has [] h = refl
spelled_has (t ∷ ts) h = joined_has is_words_byte (codes ", ") (t ∷ ts) refl h

words_have : (d : Dialect) (w : Said) → IsSaid w → Has is_words_byte (words_text d w)
unfolding words_text
words_have d w said =
    let r = dialect_rules d in
    spelled_has (texts (words_parts d w)) (texts_have is_words_byte (words_parts d w) (
      as_words (took_text r.men w.took) (took_has r.men w.took),
      (as_words (checks_text r.checks w.checks) (checks_have r.checks w.checks), (as_words (tries_text r.tries w.tries) (tries_have r.tries w.tries said.0), (as_words (end_text w.end) (end_has w.end), tt))),
    ))

move_has : (m : Move) (verdict : List ℕ) → Has is_words_byte verdict → Has is_words_byte (move_text m ++ verdict)
move_has m verdict h = append_has is_words_byte (move_text m) verdict (as_words (move_text m) (above_has (move_text m) (above_less 47 48 (move_text m) (omega arith) (move_above m)))) h

line_has : (d : Dialect) (l : Line) → IsLine l → Has is_words_byte (line_text d l)
unfolding line_text
line_has d (Opens w) h = words_have d w h
line_has d (Heard w) h = words_have d w h
line_has d (Illegal m) h = move_has m (codes " illegal") refl
line_has d (Early m) h = move_has m (codes " early") refl
line_has d (Over m) h = move_has m (codes " over") refl
line_has d (Done m w) h = move_has m (codes " ok " ++ words_text d w) (words_have d w h.1)

has_above : (text : List ℕ) → Has is_words_byte text → Above 31 text
has_above [] h = tt
has_above (b ∷ text) h =
    let p = and_parts (is_words_byte b) (list_all is_words_byte text) h in
    let low : 32 ≤ b = leb-true 32 b (and_parts (leb 32 b) (not (eqb b 47)) p.0).0 in
    (omega arith, has_above text p.1)

-- texts of words are part of a line, and have no slash
pub words_above : (d : Dialect) (w : Said) → IsSaid w → Above 31 (words_text d w)
words_above d w said = has_above (words_text d w) (words_have d w said)

pub words_no_slash : (d : Dialect) (w : Said) → IsSaid w → Free 47 (words_text d w)
words_no_slash d w said = weaker is_words_byte (λ b. not (eqb b 47)) (λ b k. (and_parts (leb 32 b) (not (eqb b 47)) k).1) (words_text d w) (words_have d w said)

-- texts of lines are one line each
pub line_above : (d : Dialect) (l : Line) → IsLine l → Above 31 (line_text d l)
line_above d l valid = has_above (line_text d l) (line_has d l valid)

-- a byte that all bytes are above does not occur
pub above_free : (mark : ℕ) (text : List ℕ) → Above mark text → Free mark text
above_free mark [] h = refl
above_free mark (b ∷ text) h =
    let above : mark < b = h.0 in
    rw (ne_eqb b mark (λ e. absurd (omega arith))) (above_free mark text h.1)

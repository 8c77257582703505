-- What lines that owe little write.
use Rattle.std.proofs.Common.{◌≡◌, ℕ, ◌<◌, ◌^◌, true, List, [], ◌∷◌, Option, None, refl, arith}
use Rattle.krieg_format.proofs.Common.{TextKind, number_text, One, is_line, joined, Line, number_line, literal, tested}
use Rattle.krieg_text.proofs.CleanTexts.{number_line as number_clean}
use Rattle.krieg_text.proofs.LineTexts.{line_append}
use Rattle.krieg_format.proofs.Writing.{Says, IsWritten}

pub literal_written : (word : List ℕ) → is_line word ≡ true → IsWritten (literal word)
literal_written word clean u f = (refl, clean)

pub number_written : (outside : TextKind) (name : List ℕ) (least most : ℕ) → most < 2 ^ 64 → is_line name ≡ true → IsWritten (number_line outside name least most)
number_written outside name least most bound clean n f = ((f.0, f.1, refl), line_append name (number_text n) clean (number_clean n (omega (arith, bound, f.1))))

pub tested_written : {A : Type 0} {F : List ℕ → Type 0} (l : Line A F) (test : A → Option TextKind) → IsWritten l → IsWritten (tested l test)
tested_written l test is x f = let w = is x f.0 in ((w.0, f.1), w.1)

one_says : {A : Type 0} {F : List ℕ → Type 0} (l : Line A F) (x : A) → l.says (joined (l.text x)) x × (is_line (joined (l.text x)) ≡ true) → Says (One (λ t. l.says t x)) (joined (l.text x) ∷ [])
one_says l x w = record { says = record { line = joined (l.text x); is = refl; says = w.0 }; are = (w.1, tt) }

pub which_written : {A : Type 0} {F : List ℕ → Type 0} (l : Line A F) → IsWritten l → (x : A) → l.fits x → Says (One (λ t. l.says t x)) (joined (l.text x) ∷ [])
which_written l is x f = one_says l x (is x f)

pub telling_written : {A : Type 0} {F : List ℕ → Type 0} (l : Line A F) (test : A → Option TextKind) → IsWritten l → (x : A) → l.fits x × (test x ≡ None) → Says (One (λ t. l.says t x × (test x ≡ None))) (joined (l.text x) ∷ [])
telling_written l test is x f = one_says (tested l test) x (tested_written l test is x f)

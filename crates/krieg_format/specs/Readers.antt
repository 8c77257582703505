-- The reader of a format, read off its description.
use Rattle.std.specs.Prelude.{ℕ, zero, suc, List, [], ◌∷◌, Ok}
use Rattle.krieg_text.specs.Languages.{Language}
use Rattle.krieg_text.specs.Outcomes.{◌>>=◌}
use Rattle.krieg_text.specs.Reading.{LineReader, taken}
use Rattle.krieg_format.specs.Descriptions.{Format, line, told, counted, also, made, times}

-- n values one after another, each by a reader of the state that those before it led to
abbrev pub repeated : {S A : Type 0} → ℕ → (S → LineReader A) → (S → A → S) → S → LineReader (List A)
repeated zero item next s p = Ok ([], p)
repeated (suc n) item next s p = do
  x ← item s p
  xs ← repeated n item next (next s x.0) x.1
  Ok (x.0 ∷ xs.0, xs.1)

-- the reader of a format, and then a reader by the value that it gave
abbrev pub read_then : {A : Type 0} {G : Language} → Format A G → {C : Type 0} → (A → LineReader C) → LineReader C
read_then (line l) k p = taken l.form p >>= λ x. k x.0 x.1
read_then (told r f) k p = r.reader p >>= λ x. read_then (f x.0) (λ y. k (x.0, y)) x.1
read_then (counted of r f) k p = r.reader p >>= λ x. read_then (f x.0) k x.1
read_then (also d f) k p = read_then d (λ x. read_then (f x) (λ y. k (x, y))) p
read_then (made make take d) k p = read_then d (λ x. k (make x)) p
read_then (times n item next s) k p = repeated n (λ t. read_then (item t) (λ x q. Ok (x, q))) next s p >>= λ x. k x.0 x.1

-- the reader of a format
abbrev pub reader : {A : Type 0} {G : Language} → Format A G → LineReader A
reader d p = read_then d (λ x q. Ok (x, q)) p

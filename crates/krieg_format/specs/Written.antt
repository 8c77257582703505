-- The written form of a format, read off its description, and the values that have one.
use Rattle.std.specs.Prelude.{ℕ, zero, suc, List, [], ◌∷◌, ◌++◌}
use Rattle.krieg_text.specs.Languages.{Language}
use Rattle.krieg_text.specs.Writing.{Pieces}
use Rattle.krieg_format.specs.Descriptions.{Format, line, told, counted, also, made, times}

-- the lines of each value in order, by the state that those before it led to
abbrev pub each_text : {S A : Type 0} → (S → A → List Pieces) → (S → A → S) → S → List A → List Pieces
each_text item next s [] = []
each_text item next s (x ∷ xs) = item s x ++ each_text item next (next s x) xs

-- the lines of a value
abbrev pub written : {A : Type 0} {G : Language} → Format A G → A → List Pieces
written (line l) x = l.text x ∷ []
written (told r f) x = r.text x.0 ++ written (f x.0) x.1
written (counted of r f) y = r.text (of y) ++ written (f (of y)) y
written (also d f) x = written d x.0 ++ written (f x.0) x.1
written (made make take d) y = written d (take y)
written (times n item next s) xs = each_text (λ t x. written (item t) x) next s xs

-- there are n values, and each may be written by the state that those before it led to
abbrev pub EachFits : {S A : Type 0} → ℕ → (S → A → Type 0) → (S → A → S) → S → List A → Type 0
EachFits zero item next s [] = Unit {0}
EachFits zero item next s (x ∷ xs) = ⊥
EachFits (suc n) item next s [] = ⊥
EachFits (suc n) item next s (x ∷ xs) = item s x × EachFits n item next (next s x) xs

-- which values may be written
abbrev pub Fits : {A : Type 0} {G : Language} → Format A G → A → Type 0
Fits (line l) x = l.fits x
Fits (told r f) x = r.fits x.0 × Fits (f x.0) x.1
Fits (counted of r f) y = r.fits (of y) × Fits (f (of y)) y
Fits (also d f) x = Fits d x.0 × Fits (f x.0) x.1
Fits (made make take d) y = Fits d (take y)
Fits (times n item next s) xs = EachFits n (λ t x. Fits (item t) x) next s xs

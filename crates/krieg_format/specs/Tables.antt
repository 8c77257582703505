-- The table of a format, read off its description: which lines say a value. It has no reader in it.
use Rattle.std.specs.Prelude.{ℕ, zero, suc, List, [], ◌∷◌}
use Rattle.krieg_text.specs.Languages.{Language, One, Nothing, ◌⨾◌}
use Rattle.krieg_format.specs.Descriptions.{Format, line, told, counted, also, made, times}

-- lines for each of n values in order, by the state that those before it led to
abbrev pub Each : {S A : Type 0} → ℕ → (S → A → Language) → (S → A → S) → S → List A → Language
Each zero item next s [] ls = Nothing ls
Each zero item next s (x ∷ xs) ls = ⊥
Each (suc n) item next s [] ls = ⊥
Each (suc n) item next s (x ∷ xs) ls = (item s x ⨾ Each n item next (next s x) xs) ls

-- which lines say the value
abbrev pub table : {A : Type 0} {G : Language} → Format A G → A → Language
table (line l) x = One (λ t. l.says t x)
table (told r f) x = r.says x.0 ⨾ table (f x.0) x.1
table (counted of r f) y = r.says (of y) ⨾ table (f (of y)) y
table (also d f) x = table d x.0 ⨾ table (f x.0) x.1
table (made make take d) y = table d (take y)
table (times n item next s) xs = Each n (λ t x. table (item t) x) next s xs

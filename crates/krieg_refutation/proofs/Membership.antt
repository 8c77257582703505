-- Members of sets, and claims at places.
use Rattle.std.proofs.Common.{◌≡◌, ℕ, zero, suc, ◌-◌, ◌<◌, ◌≤◌, List, [], ◌∷◌, length, get_or, map, Some, None, refl, sym, ap, subst, arith}
use Rattle.krieg_refutation.proofs.Common.{cited}

-- the claim at a place, counted from 1
cited_more : {X Y : Type 0} (f : X → Y) (xs : List X) (i : ℕ) → length xs ≤ i → cited (map f xs) (suc i) ≡ None
cited_more f [] i h = refl
cited_more f (x ∷ xs) zero h = absurd (omega arith)
cited_more f (x ∷ xs) (suc i) h = cited_more f xs i (omega arith)

cited_item : {X Y : Type 0} (f : X → Y) (xs : List X) (i : ℕ) (x : X) → i < length xs → x ≡ get_or xs i x → cited (map f xs) (suc i) ≡ Some (f x)
cited_item f [] i x h e = absurd (omega arith)
cited_item f (y ∷ xs) zero x h e = ap (λ z. Some (f z)) (sym e)
cited_item f (y ∷ xs) (suc i) x h e = cited_item f xs i x (omega arith) e

pub cited_past : {X Y : Type 0} (f : X → Y) (xs : List X) (place : ℕ) → length xs < place → cited (map f xs) place ≡ None
cited_past f xs zero h = absurd (omega arith)
cited_past f xs (suc i) h = cited_more f xs i (omega arith)

pub cited_here : {X Y : Type 0} (f : X → Y) (xs : List X) (place : ℕ) (x : X) → (place ≡ 0 → ⊥) → place ≤ length xs → x ≡ get_or xs (place - 1) x → cited (map f xs) place ≡ Some (f x)
cited_here f xs zero x z h e = absurd (z refl)
cited_here f xs (suc i) x z h e = let q : suc i - 1 ≡ i = omega arith in cited_item f xs i x (omega arith) (subst (λ (k : ℕ). x ≡ get_or xs k x) q e)

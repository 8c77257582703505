-- Lists in which nothing stands twice.
use Rattle.std.proofs.Common.{◌≡◌, Bool, true, false, cond, List, [], ◌∷◌, ◌++◌, ◌⊎◌, inl, inr, map, flat_map, subst, refl}
use Rattle.std.specs.List.{filter}
use Rattle.std.proofs.lemmas.Bool.{both_ways}
use Rattle.krieg_costs.proofs.Common.{In, IsOrder, Ascending, as_set, IsOnce}
use Rattle.krieg_theory.proofs.Ascending.{as_set_ascending}
use Rattle.krieg_theory.proofs.Lists.{append_in, flat_in, map_in, filter_in}

pub once_append : {X : Type 0} (xs ys : List X) → IsOnce xs → IsOnce ys → ((x : X) → In x xs → In x ys → ⊥) → IsOnce (xs ++ ys)
once_append [] ys a b apart = b
once_append (x ∷ xs) ys a b apart = ((λ i. go (append_in xs ys x i)), once_append xs ys a.1 b (λ z i j. apart z (inr i) j))
  where
    go : In x xs ⊎ In x ys → ⊥
    go (inl i) = a.0 i
    go (inr i) = apart x (inl refl) i

pub once_map : {X Y : Type 0} (f : X → Y) (xs : List X) → ((a b : X) → f a ≡ f b → a ≡ b) → IsOnce xs → IsOnce (map f xs)
once_map f [] one h = tt
once_map f (x ∷ xs) one h = ((λ i. let y = map_in f xs (f x) i in h.0 (subst (λ z. In z xs) (one y.0 x y.2) y.1)), once_map f xs one h.1)

pub once_flat : {X Y : Type 0} (f : X → List Y) (xs : List X) → IsOnce xs → ((x : X) → IsOnce (f x)) → ((a b : X) (y : Y) → In y (f a) → In y (f b) → a ≡ b) → IsOnce (flat_map f xs)
once_flat f [] h each apart = tt
once_flat f (x ∷ xs) h each apart =
    once_append (f x) (flat_map f xs) (each x) (once_flat f xs h.1 each apart)
    (λ y i j. let z = flat_in f xs y j in h.0 (subst (λ w. In w xs) (apart z.0 x y z.2 i) z.1))

pub once_filter : {X : Type 0} (f : X → Bool) (xs : List X) → IsOnce xs → IsOnce (filter f xs)
once_filter f [] h = tt
once_filter f (x ∷ xs) h = elim (f x) as (λ b. IsOnce (cond b (x ∷ filter f xs) (filter f xs))) [
  | true ↦ ((λ i. h.0 (filter_in f xs x i).0), once_filter f xs h.1)
  | false ↦ once_filter f xs h.1
]

pub once_ascending : {X : Type 0} (lt : X → X → Bool) → IsOrder lt → (xs : List X) → Ascending lt xs → IsOnce xs
once_ascending lt o [] up = tt
once_ascending lt o (x ∷ xs) up = ((λ i. both_ways (lt x x) (o.never_itself x) (up.0 x i)), once_ascending lt o xs up.1)

pub once_set : {X : Type 0} (lt : X → X → Bool) → IsOrder lt → (xs : List X) → IsOnce (as_set lt xs)
once_set lt o xs = once_ascending lt o (as_set lt xs) (as_set_ascending lt o xs)

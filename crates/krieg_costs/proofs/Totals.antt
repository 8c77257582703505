-- Sums over lists.
use Rattle.std.proofs.Common.{◌≡◌, ℕ, ◌+◌, ◌≤◌, Bool, true, false, cond, ◌⊎◌, List, [], ◌∷◌, ◌++◌, length, flat_map, refl, sym, ap, subst, inl, inr, ◌∙◌, arith, length-append}
use Rattle.krieg_costs.proofs.Common.{In, total, up_to, IsOnce}

module _ {X : Type 0} where
  pub total_agree : (f g : X → ℕ) (xs : List X) → ((x : X) → In x xs → f x ≡ g x) → total f xs ≡ total g xs
  total_agree f g [] h = refl
  total_agree f g (x ∷ xs) h = let a = h x (inl refl) in let ih = total_agree f g xs (λ y i. h y (inr i)) in omega arith

  pub total_append : (f : X → ℕ) (xs ys : List X) → total f (xs ++ ys) ≡ total f xs + total f ys
  total_append f [] ys = omega arith
  total_append f (x ∷ xs) ys = let ih = total_append f xs ys in omega arith

  pub total_add : (f g : X → ℕ) (xs : List X) → total (λ x. f x + g x) xs ≡ total f xs + total g xs
  total_add f g [] = refl
  total_add f g (x ∷ xs) = let ih = total_add f g xs in omega arith

  pub total_up_to : (f : X → ℕ) (p : X → Bool) (xs : List X) → total f (up_to p xs) ≤ total f xs
  total_up_to f p [] = omega arith
  total_up_to f p (x ∷ xs) = let ih = total_up_to f p xs in elim (p x) as (λ b. f x + total f (cond b [] (up_to p xs)) ≤ f x + total f xs) [ true ↦ omega arith | false ↦ omega arith ]

  -- a list without one of its places
  abbrev pub Without : (X → ℕ) → X → List X → Type 0
  Without f x ys = (zs : List X) × (total f ys ≡ f x + total f zs) × ((z : X) → In z ys → (x ≡ z → ⊥) → In z zs)

  without : (f : X → ℕ) (x : X) (ys : List X) → In x ys → Without f x ys
  without f x [] i = absurd i
  without f x (y ∷ ys) (inl e) = (ys, ap (λ z. f z + total f ys) e, λ z i n. here z i n)
    where
      here : (z : X) → (y ≡ z) ⊎ In z ys → (x ≡ z → ⊥) → In z ys
      here z (inl d) n = absurd (n (sym e ∙ d))
      here z (inr i) n = i
  without f x (y ∷ ys) (inr i) = go (without f x ys i)
    where
      go : Without f x ys → Without f x (y ∷ ys)
      go r = (y ∷ r.0, (let a = r.1 in omega arith), λ z k n. there z k n)
        where
          there : (z : X) → (y ≡ z) ⊎ In z ys → (x ≡ z → ⊥) → (y ≡ z) ⊎ In z r.0
          there z (inl d) n = inl d
          there z (inr k) n = inr (r.2 z k n)

  -- a list without repeats, all of which stands in another one, sums up to no more
  pub total_within : (f g : X → ℕ) (xs ys : List X) → IsOnce xs → ((x : X) → In x xs → In x ys) → ((x : X) → f x ≤ g x) → total f xs ≤ total g ys
  total_within f g [] ys o h le = omega arith
  total_within f g (x ∷ xs) ys o h le =
      let r = without g x ys (h x (inl refl)) in
      let a = r.1 in
      let b = le x in
      let ih = total_within f g xs r.0 o.1 (λ z i. r.2 z (h z (inr i)) (λ e. o.0 (subst (λ w. In w xs) (sym e) i))) le in
      omega arith

pub total_flat : {X Y : Type 0} (f : Y → ℕ) (g : X → List Y) (xs : List X) → total f (flat_map g xs) ≡ total (λ x. total f (g x)) xs
total_flat f g [] = refl
total_flat f g (x ∷ xs) = let ih = total_flat f g xs in let a = total_append f (g x) (flat_map g xs) in omega arith

pub length_flat : {X Y : Type 0} (g : X → List Y) (xs : List X) → length (flat_map g xs) ≡ total (λ x. length (g x)) xs
length_flat g [] = refl
length_flat g (x ∷ xs) = let ih = length_flat g xs in omega (arith, length-append (g x) (flat_map g xs))

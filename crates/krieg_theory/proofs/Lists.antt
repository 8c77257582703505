-- Lists, members and tests.
use Rattle.std.proofs.Common.{◌≡◌, ℕ, suc, ◌≤◌, ◌<◌, Bool, true, false, cond, ◌⊎◌, List, [], ◌∷◌, ◌++◌, length, filter, map, flat_map, find, take, drop, Some, refl, sym, ap, subst, inl, inr, ◌∙◌, arith}
use Rattle.std.specs.List.{list_all, list_any}
use Rattle.std.proofs.lemmas.List.{take-append-drop}
use Rattle.std.proofs.lemmas.Bool.{and_parts, and_from, or_cases, or_left, or_right, cases_Bool, cond-true, cond-false, both_ways, false_from_ne_true}
use Rattle.krieg_theory.proofs.Common.{In, Ascending, is_nil}

module _ {X : Type 0} where
  pub all_at : (f : X → Bool) (xs : List X) → list_all f xs ≡ true → (x : X) → In x xs → f x ≡ true
  all_at f [] h x i = absurd i
  all_at f (y ∷ ys) h x (inl e) = subst (λ z. f z ≡ true) e (and_parts (f y) (list_all f ys) h).0
  all_at f (y ∷ ys) h x (inr i) = all_at f ys (and_parts (f y) (list_all f ys) h).1 x i

  pub all_from : (f : X → Bool) (xs : List X) → ((x : X) → In x xs → f x ≡ true) → list_all f xs ≡ true
  all_from f [] h = refl
  all_from f (y ∷ ys) h = and_from (f y) (list_all f ys) (h y (inl refl)) (all_from f ys (λ x i. h x (inr i)))

  pub any_from : (f : X → Bool) (xs : List X) (x : X) → In x xs → f x ≡ true → list_any f xs ≡ true
  any_from f [] x i h = absurd i
  any_from f (y ∷ ys) x (inl e) h = or_left (f y) (list_any f ys) (subst (λ z. f z ≡ true) (sym e) h)
  any_from f (y ∷ ys) x (inr i) h = or_right (f y) (list_any f ys) (any_from f ys x i h)

  pub any_at : (f : X → Bool) (xs : List X) → list_any f xs ≡ true → (x : X) × In x xs × (f x ≡ true)
  any_at f [] h = absurd (both_ways false refl h)
  any_at f (y ∷ ys) h = go (or_cases (f y) (list_any f ys) h) (any_at f ys)
    where
      go : (f y ≡ true) ⊎ (list_any f ys ≡ true) → (list_any f ys ≡ true → (x : X) × In x ys × (f x ≡ true)) → (x : X) × In x (y ∷ ys) × (f x ≡ true)
      go (inl e) r = (y, inl refl, e)
      go (inr e) r = ((r e).0, inr (r e).1, (r e).2)

  pub any_none : (f : X → Bool) (xs : List X) → list_any f xs ≡ false → (x : X) → In x xs → f x ≡ false
  any_none f xs h x i = false_from_ne_true (f x) (λ e. both_ways (list_any f xs) h (any_from f xs x i e))

  pub in_filter : (f : X → Bool) (xs : List X) (x : X) → In x xs → f x ≡ true → In x (filter f xs)
  in_filter f [] x i h = absurd i
  in_filter f (y ∷ ys) x (inl e) h =
      let P : Bool → Type 0 = λ b. In x (cond b (y ∷ filter f ys) (filter f ys)) in
      subst P (sym (subst (λ z. f z ≡ true) (sym e) h)) (inl e)
  in_filter f (y ∷ ys) x (inr i) h =
      let r = in_filter f ys x i h in
      elim (f y) as (λ b. In x (cond b (y ∷ filter f ys) (filter f ys))) [ true ↦ inr r | false ↦ r ]

  pub filter_in : (f : X → Bool) (xs : List X) (x : X) → In x (filter f xs) → In x xs × (f x ≡ true)
  filter_in f [] x i = absurd i
  filter_in f (y ∷ ys) x i = go (f y) refl i (filter_in f ys x)
    where
      go : (b : Bool) → f y ≡ b → In x (cond b (y ∷ filter f ys) (filter f ys)) → (In x (filter f ys) → In x ys × (f x ≡ true)) → In x (y ∷ ys) × (f x ≡ true)
      go true e (inl s) r = (inl s, subst (λ z. f z ≡ true) s e)
      go true e (inr s) r = (inr (r s).0, (r s).1)
      go false e s r = (inr (r s).0, (r s).1)

  pub filter_le : (f : X → Bool) (xs : List X) → length (filter f xs) ≤ length xs
  filter_le f [] = omega arith
  filter_le f (y ∷ ys) = let r = filter_le f ys in elim (f y) as (λ b. length (cond b (y ∷ filter f ys) (filter f ys)) ≤ suc (length ys)) [ true ↦ omega arith | false ↦ omega arith ]

  pub filter_lt : (f : X → Bool) (xs : List X) (x : X) → In x xs → f x ≡ false → length (filter f xs) < length xs
  filter_lt f [] x i h = absurd i
  filter_lt f (y ∷ ys) x (inl e) h =
      let r = filter_le f ys in
      let P : Bool → Type 0 = λ b. length (cond b (y ∷ filter f ys) (filter f ys)) < suc (length ys) in
      subst P (sym (subst (λ z. f z ≡ false) (sym e) h)) (omega arith)
  filter_lt f (y ∷ ys) x (inr i) h =
      let r = filter_lt f ys x i h in
      elim (f y) as (λ b. length (cond b (y ∷ filter f ys) (filter f ys)) < suc (length ys)) [ true ↦ omega arith | false ↦ omega arith ]

  pub nil_or_member : (xs : List X) → (is_nil xs ≡ true) ⊎ ((x : X) × In x xs)
  nil_or_member [] = inl refl
  nil_or_member (x ∷ xs) = inr (x, inl refl)

  pub nil_none : (xs : List X) → is_nil xs ≡ true → (x : X) → In x xs → ⊥
  nil_none [] h x i = i
  nil_none (y ∷ ys) h x i = both_ways false refl h

  pub in_append_left : (xs ys : List X) (x : X) → In x xs → In x (xs ++ ys)
  in_append_left [] ys x i = absurd i
  in_append_left (y ∷ xs) ys x (inl e) = inl e
  in_append_left (y ∷ xs) ys x (inr i) = inr (in_append_left xs ys x i)

  pub in_append_right : (xs ys : List X) (x : X) → In x ys → In x (xs ++ ys)
  in_append_right [] ys x i = i
  in_append_right (y ∷ xs) ys x i = inr (in_append_right xs ys x i)

  pub append_in : (xs ys : List X) (x : X) → In x (xs ++ ys) → In x xs ⊎ In x ys
  append_in [] ys x i = inr i
  append_in (y ∷ xs) ys x (inl e) = inl (inl e)
  append_in (y ∷ xs) ys x (inr i) = ⊎_more (append_in xs ys x i)
    where
      ⊎_more : In x xs ⊎ In x ys → In x (y ∷ xs) ⊎ In x ys
      ⊎_more (inl a) = inl (inr a)
      ⊎_more (inr b) = inr b

  pub take_in : (n : ℕ) (xs : List X) (x : X) → In x (take n xs) → In x xs
  take_in n xs x i = subst (In x) (take-append-drop n xs) (in_append_left (take n xs) (drop n xs) x i)

module _ {X Y : Type 0} where
  pub in_flat : (f : X → List Y) (xs : List X) (x : X) (y : Y) → In x xs → In y (f x) → In y (flat_map f xs)
  in_flat f [] x y i h = absurd i
  in_flat f (z ∷ zs) x y (inl e) h = in_append_left (f z) (flat_map f zs) y (subst (λ w. In y (f w)) (sym e) h)
  in_flat f (z ∷ zs) x y (inr i) h = in_append_right (f z) (flat_map f zs) y (in_flat f zs x y i h)

  pub flat_in : (f : X → List Y) (xs : List X) (y : Y) → In y (flat_map f xs) → (x : X) × In x xs × In y (f x)
  flat_in f [] y i = absurd i
  flat_in f (z ∷ zs) y i = go (append_in (f z) (flat_map f zs) y i) (flat_in f zs y)
    where
      go : In y (f z) ⊎ In y (flat_map f zs) → (In y (flat_map f zs) → (x : X) × In x zs × In y (f x)) → (x : X) × In x (z ∷ zs) × In y (f x)
      go (inl a) r = (z, inl refl, a)
      go (inr b) r = ((r b).0, inr (r b).1, (r b).2)

-- what is in a list of images, and what is found first
module _ {X : Type 0} where
  pub find_at : (f : X → Bool) (xs : List X) (x : X) → In x xs → f x ≡ true → (y : X) × (find f xs ≡ Some y) × (f y ≡ true)
  find_at f [] x i h = absurd i
  find_at f (y ∷ ys) x i h = go (cases_Bool (f y)) i (find_at f ys x)
    where
      go : (f y ≡ true) ⊎ (f y ≡ false) → (y ≡ x) ⊎ In x ys → (In x ys → f x ≡ true → (z : X) × (find f ys ≡ Some z) × (f z ≡ true)) → (z : X) × (find f (y ∷ ys) ≡ Some z) × (f z ≡ true)
      go (inl e) s r = (y, cond-true (f y) (Some y) (find f ys) e, e)
      go (inr e) (inl s) r = absurd (both_ways (f y) e (subst (λ z. f z ≡ true) (sym s) h))
      go (inr e) (inr s) r = let a = r s h in (a.0, cond-false (f y) (Some y) (find f ys) e ∙ a.1, a.2)

  pub in_map : {Y : Type 0} (f : X → Y) (xs : List X) (x : X) → In x xs → In (f x) (map f xs)
  in_map f [] x i = absurd i
  in_map f (y ∷ ys) x (inl e) = inl (ap f e)
  in_map f (y ∷ ys) x (inr i) = inr (in_map f ys x i)

  pub map_in : {Y : Type 0} (f : X → Y) (xs : List X) (y : Y) → In y (map f xs) → (x : X) × In x xs × (f x ≡ y)
  map_in f [] y i = absurd i
  map_in f (x ∷ xs) y (inl e) = (x, inl refl, e)
  map_in f (x ∷ xs) y (inr i) = let r = map_in f xs y i in (r.0, inr r.1, r.2)

  -- what is found, passes, and what is before it does not
  pub find_first : (lt : X → X → Bool) (f : X → Bool) (xs : List X) (x : X) → Ascending lt xs → find f xs ≡ Some x → In x xs × (f x ≡ true) × ((y : X) → In y xs → f y ≡ true → (y ≡ x) ⊎ (lt x y ≡ true))
  find_first lt f [] x a e = absurd (cc)
  find_first lt f (y ∷ ys) x a e = go (cases_Bool (f y)) (find_first lt f ys x a.1)
    where
      go : (f y ≡ true) ⊎ (f y ≡ false) → (find f ys ≡ Some x → In x ys × (f x ≡ true) × ((z : X) → In z ys → f z ≡ true → (z ≡ x) ⊎ (lt x z ≡ true))) → In x (y ∷ ys) × (f x ≡ true) × ((z : X) → (y ≡ z) ⊎ In z ys → f z ≡ true → (z ≡ x) ⊎ (lt x z ≡ true))
      go (inl t) r =
          let s : y ≡ x = (let q : Some y ≡ Some x = sym (cond-true (f y) (Some y) (find f ys) t) ∙ e in cc) in
          (inl s, subst (λ z. f z ≡ true) s t, λ z i h. later z i)
        where
          later : (z : X) → (y ≡ z) ⊎ In z ys → (z ≡ x) ⊎ (lt x z ≡ true)
          later z (inl d) = inl (sym d ∙ (let q : Some y ≡ Some x = sym (cond-true (f y) (Some y) (find f ys) t) ∙ e in cc))
          later z (inr i) = inr (subst (λ w. lt w z ≡ true) (let q : Some y ≡ Some x = sym (cond-true (f y) (Some y) (find f ys) t) ∙ e in cc) (a.0 z i))
      go (inr t) r =
          let b = r (sym (cond-false (f y) (Some y) (find f ys) t) ∙ e) in
          (inr b.0, b.1, λ z i h. later z i h)
        where
          later : (z : X) → (y ≡ z) ⊎ In z ys → f z ≡ true → (z ≡ x) ⊎ (lt x z ≡ true)
          later z (inl d) h = absurd (both_ways (f y) t (subst (λ w. f w ≡ true) (sym d) h))
          later z (inr i) h = (r (sym (cond-false (f y) (Some y) (find f ys) t) ∙ e)).2 z i h

  -- and the other way round
  pub find_is : (lt : X → X → Bool) (f : X → Bool) (xs : List X) (x : X) → Ascending lt xs → In x xs → f x ≡ true → ((y : X) → f y ≡ true → lt y x ≡ false) → find f xs ≡ Some x
  find_is lt f [] x a i t h = absurd i
  find_is lt f (y ∷ ys) x a (inl e) t h = cond-true (f y) (Some y) (find f ys) (subst (λ w. f w ≡ true) (sym e) t) ∙ ap Some e
  find_is lt f (y ∷ ys) x a (inr i) t h = go (cases_Bool (f y)) (find_is lt f ys x a.1 i t h)
    where
      go : (f y ≡ true) ⊎ (f y ≡ false) → find f ys ≡ Some x → find f (y ∷ ys) ≡ Some x
      go (inl s) r = absurd (both_ways (lt y x) (h y s) (a.0 x i))
      go (inr s) r = cond-false (f y) (Some y) (find f ys) s ∙ r

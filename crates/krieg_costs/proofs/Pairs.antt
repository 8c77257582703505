-- Pairs of a set and a number, and a list of them without repeats.
use Rattle.std.proofs.Common.{◌≡◌, ℕ, ◌+◌, ◌≤◌, Bool, true, false, cond, ◌⊎◌, List, [], ◌∷◌, refl, sym, subst, inl, inr, ◌∙◌, arith}
use Rattle.std.specs.Prelude.{◌==◌}
use Rattle.std.specs.List.{list_any}
use Rattle.std.proofs.lemmas.Bool.{cases_Bool, cond-true, cond-false, both_ways, and_parts, and_from, eqb-true, eq-eqb}
use Rattle.krieg_costs.proofs.Common.{In, IsOrder, same, Game, IsGame, Pair, total, IsOnce, same_list, same_pair, once, OnceIsOnce}
use Rattle.krieg_theory.proofs.Lists.{any_at, any_from}
use Rattle.krieg_theory.proofs.Ascending.{same_eq, same_refl}

module _ {X : Type 0} (lt : X → X → Bool) (O : IsOrder lt) where
  pub same_list_eq : (xs ys : List X) → same_list lt xs ys ≡ true → xs ≡ ys
  same_list_eq [] [] h = refl
  same_list_eq [] (y ∷ ys) h = absurd (both_ways false refl h)
  same_list_eq (x ∷ xs) [] h = absurd (both_ways false refl h)
  same_list_eq (x ∷ xs) (y ∷ ys) h =
      let a = and_parts (same lt x y) (same_list lt xs ys) h in
      let e = same_eq lt O x y a.0 in
      let d = same_list_eq xs ys a.1 in
      λ i. e i ∷ d i

  pub same_list_refl : (xs : List X) → same_list lt xs xs ≡ true
  same_list_refl [] = refl
  same_list_refl (x ∷ xs) = and_from _ _ (same_refl lt O x) (same_list_refl xs)

module _ (G : Game) (L : IsGame G) where
  pub same_pair_eq : (a b : Pair G) → same_pair G a b ≡ true → a ≡ b
  same_pair_eq a b h =
      let c = and_parts (a.1 == b.1) _ h in
      let e = same_list_eq G.position_lt L.position_order a.0 b.0 c.1 in
      let d = eqb-true a.1 b.1 c.0 in
      λ i. (e i, d i)

  pub same_pair_refl : (a : Pair G) → same_pair G a a ≡ true
  same_pair_refl a = and_from _ _ (eq-eqb a.1 a.1 refl) (same_list_refl G.position_lt L.position_order a.0)

  pub in_once : (R : List (Pair G)) (q : Pair G) → In q R → In q (once G R)
  in_once [] q i = i
  in_once (p ∷ R) q i = go (cases_Bool (list_any (same_pair G p) R)) i (in_once R)
    where
      go : (list_any (same_pair G p) R ≡ true) ⊎ (list_any (same_pair G p) R ≡ false) → (p ≡ q) ⊎ In q R → ((q : Pair G) → In q R → In q (once G R)) → In q (once G (p ∷ R))
      go (inl e) (inl s) ih =
          let a = any_at (same_pair G p) R e in
          subst (In q) (sym (cond-true (list_any (same_pair G p) R) (once G R) (p ∷ once G R) e)) (ih q (subst (λ x. In x R) (sym (same_pair_eq p a.0 a.2) ∙ s) a.1))
      go (inl e) (inr s) ih = subst (In q) (sym (cond-true (list_any (same_pair G p) R) (once G R) (p ∷ once G R) e)) (ih q s)
      go (inr e) (inl s) ih = subst (In q) (sym (cond-false (list_any (same_pair G p) R) (once G R) (p ∷ once G R) e)) (inl s)
      go (inr e) (inr s) ih = subst (In q) (sym (cond-false (list_any (same_pair G p) R) (once G R) (p ∷ once G R) e)) (inr (ih q s))

  pub once_in : (R : List (Pair G)) (q : Pair G) → In q (once G R) → In q R
  once_in [] q i = i
  once_in (p ∷ R) q i = go (cases_Bool (list_any (same_pair G p) R)) (once_in R q)
    where
      put : (p ≡ q) ⊎ In q (once G R) → (In q (once G R) → In q R) → (p ≡ q) ⊎ In q R
      put (inl s) ih = inl s
      put (inr s) ih = inr (ih s)

      go : (list_any (same_pair G p) R ≡ true) ⊎ (list_any (same_pair G p) R ≡ false) → (In q (once G R) → In q R) → (p ≡ q) ⊎ In q R
      go (inl e) ih = inr (ih (subst (In q) (cond-true (list_any (same_pair G p) R) (once G R) (p ∷ once G R) e) i))
      go (inr e) ih = put (subst (In q) (cond-false (list_any (same_pair G p) R) (once G R) (p ∷ once G R) e) i) ih

  -- nothing in it stands twice
  pub once_is : (R : List (Pair G)) → IsOnce (once G R)
  once_is [] = tt
  once_is (p ∷ R) = go (cases_Bool (list_any (same_pair G p) R)) (once_is R)
    where
      go : (list_any (same_pair G p) R ≡ true) ⊎ (list_any (same_pair G p) R ≡ false) → IsOnce (once G R) → IsOnce (once G (p ∷ R))
      go (inl e) ih = subst IsOnce (sym (cond-true (list_any (same_pair G p) R) (once G R) (p ∷ once G R) e)) ih
      go (inr e) ih = subst IsOnce (sym (cond-false (list_any (same_pair G p) R) (once G R) (p ∷ once G R) e)) (λ i. both_ways _ e (any_from (same_pair G p) R p (once_in R p i) (same_pair_refl p)), ih)

  pub total_once : (f : Pair G → ℕ) (R : List (Pair G)) → total f (once G R) ≤ total f R
  total_once f [] = omega arith
  total_once f (p ∷ R) = let ih = total_once f R in elim (list_any (same_pair G p) R) as (λ b. total f (cond b (once G R) (p ∷ once G R)) ≤ f p + total f R) [ true ↦ omega arith | false ↦ omega arith ]

  pub once_is_once : OnceIsOnce G
  once_is_once R = (once_is R, λ q. (once_in R q, in_once R q))

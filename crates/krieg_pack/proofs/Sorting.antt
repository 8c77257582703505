-- A list that was sorted and freed of repeats is the set of its members, and a search in a set finds just them.
use Rattle.std.proofs.Common.{◌≡◌, ℕ, zero, suc, ◌+◌, ◌<◌, ◌≤◌, Bool, true, false, List, [], ◌∷◌, inl, inr, length, refl, sym, ap, subst, ◌∙◌, arith}
use Rattle.std.specs.Prelude.{slice_index_or, Result, Ok, Err, is_ok}
use Rattle.std.specs.List.{Contains, AllByRecursion, dedup}
use Rattle.std.specs.List.Sorted.{IsStrictlySortedBy, IsSorted, IsPermutation, IsNonDecreasingBy, IsBinarySearchResult, IsSearchInRange}
use Rattle.std.specs.Cmp.{IsTotalOrder, Equal-is}
use Rattle.std.specs.declared.cmp.Ordering.{Ordering}
use Rattle.std.specs.declared.cmp.Ordering.TheVariants.{Less, Equal, Greater}
use Rattle.std.specs.Ordering.{is_lt, eq_by_cmp, ordering_reverse, ordering_index, nat_cmp}
use Rattle.std.proofs.lemmas.Cmp.{tied_itself, eq_by_cmp_equiv, ranked, by_ranked}
use Rattle.std.proofs.lemmas.List.Kept.{IsStrictlySortedBy-dedup, Contains-dedup, Contains-from_dedup}
use Rattle.std.proofs.lemmas.List.Sorted.{Contains-permutation, IsPermutation-sym, searchable_from_sorted}
use Rattle.std.proofs.lemmas.Bool.{both_ways}
use Rattle.krieg_pack.proofs.Common.{In, Ascending, IsOrder, as_set}
use Rattle.krieg_theory.proofs.Ascending.{less_from, same_set, as_set_ascending, in_as_set, as_set_in, asym}
use Rattle.krieg_pack.proofs.Membership.{in_at, contains_in, in_contains}

less_not : Less ≡ Equal → ⊥
less_not e = cc

greater_not : Greater ≡ Equal → ⊥
greater_not e = cc

-- over any total comparison that tells values apart
module _ {X : Type 0} (R : X → X → Ordering) (o : IsTotalOrder R) (same : (x y : X) → R x y ≡ Equal → x ≡ y) where
  abbrev pub lt : X → X → Bool
  lt x y = is_lt (R x y)

  pub is_order : IsOrder lt
  is_order = record {
    never_itself = λ a. ap is_lt (tied_itself o a);
    trans = λ a b c p q. ap is_lt (o.trans a b c (less_from (R a b) p) (less_from (R b c) q));
    total = λ a b p q. neither a b (R a b) refl p q;
  }
    where
      neither : (a b : X) (r : Ordering) → R a b ≡ r → is_lt (R a b) ≡ false → is_lt (R b a) ≡ false → a ≡ b
      neither a b Less e p q = absurd (both_ways (is_lt (R a b)) p (ap is_lt e))
      neither a b Equal e p q = same a b e
      neither a b Greater e p q = absurd (both_ways (is_lt (R b a)) q (ap is_lt (o.antisymm b a ∙ ap ordering_reverse e)))

  all_in : (x : X) (ys : List X) → AllByRecursion (λ y. R x y ≡ Less) ys → (y : X) → In y ys → lt x y ≡ true
  all_in x [] h y i = absurd i
  all_in x (z ∷ zs) h y (inl e) = ap is_lt (subst (λ w. R x w ≡ Less) e h.0)
  all_in x (z ∷ zs) h y (inr i) = all_in x zs h.1 y i

  pub ascending_from : (xs : List X) → IsStrictlySortedBy R xs → Ascending lt xs
  unfolding IsStrictlySortedBy
  ascending_from [] h = tt
  ascending_from (x ∷ xs) h = (all_in x xs h.0, ascending_from xs h.1)

  -- what sort_unstable and then dedup leave of a list
  pub sorted_set : (xs ys : List X) → IsPermutation xs ys → IsSorted R ys → dedup (eq_by_cmp R) ys ≡ as_set lt xs
  sorted_set xs ys moved sorted =
      same_set lt is_order (dedup (eq_by_cmp R) ys) (as_set lt xs)
      (ascending_from _ (IsStrictlySortedBy-dedup o (λ x y. refl) ys sorted))
      (as_set_ascending lt is_order xs)
      (λ z i. in_as_set lt is_order z xs (contains_in z xs (Contains-permutation _ _ z (IsPermutation-sym _ _ moved) (Contains-from_dedup _ ys z (in_contains z _ i)))))
      (λ z i. contains_in z _ (Contains-dedup (eq_by_cmp_equiv o) (λ x y e. same x y ((Equal-is (R x y)).0 e)) ys z (Contains-permutation _ _ z moved (in_contains z xs (as_set_in lt is_order z xs i)))))

  next_not_less : (xs : List X) (k : ℕ) (d : X) → Ascending lt xs → suc k < length xs → lt (slice_index_or xs (suc k) d) (slice_index_or xs k d) ≡ false
  next_not_less [] k d up h = absurd (omega arith)
  next_not_less (y ∷ []) k d up h = absurd (omega arith)
  next_not_less (y ∷ z ∷ zs) zero d up h = asym lt is_order y z (up.0 z (inl refl))
  next_not_less (y ∷ z ∷ zs) (suc k) d up h = next_not_less (z ∷ zs) k d up.1 (omega arith)

  rises : (xs : List X) (x : X) → Ascending lt xs → IsNonDecreasingBy (λ y. ordering_index (R y x)) xs
  rises xs x up = searchable_from_sorted o (λ y. y) xs x
      (λ k d low h. let e : suc k ≡ k + 1 = omega arith in subst (λ n. lt (slice_index_or xs n d) (slice_index_or xs k d) ≡ false) e (next_not_less xs k d up (omega arith)))

  -- what binary_search finds in a set
  pub found : (xs : List X) (x : X) (r : Result ℕ ℕ) → Ascending lt xs → IsSearchInRange r (length xs) → IsBinarySearchResult (λ y. R y x) xs r →
      (is_ok r ≡ true → In x xs) × (In x xs → is_ok r ≡ true)
  found xs x (Ok i) up n h = (λ e. in_at xs i x x n (same (slice_index_or xs i x) x (h x)), λ e. refl)
  found xs x (Err i) up n h = (λ e. absurd (both_ways false refl e), λ s. absurd (none (in_contains x xs s)))
    where
      none : Contains xs x → ⊥
      none c =
          let level : R (slice_index_or xs c.0 x) x ≡ Equal = ap (λ y. R y x) c.2 ∙ tied_itself o x in
          let p = h (rises xs x up) in
          let high = λ (b : i ≤ c.0). greater_not (sym (p.1 c.0 x b c.1) ∙ level) in
          by_ranked (c.0 < i) (c.0 ≡ i) (i < c.0) (nat_cmp c.0 i) (ranked c.0 i (nat_cmp c.0 i) refl)
          (λ e a. less_not (sym (p.0 c.0 x (omega arith) a) ∙ level)) (λ e b. high (omega arith)) (λ e b. high (omega arith))

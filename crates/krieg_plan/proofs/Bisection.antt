-- Bisection of a list whose keys ascend finds what stands under a key, where anything does.
use Rattle.std.proofs.Common.{◌≡◌, ℕ, zero, suc, ◌+◌, ◌<◌, ◌≤◌, Bool, true, false, not, ◌&&◌, List, [], ◌∷◌, length, map, refl, sym, ap, subst, ◌∙◌, arith}
use Rattle.std.specs.Prelude.{slice_index_or, Result, Ok, Err, MatchResult, if◌then◌else◌}
use Rattle.std.specs.List.Sorted.{IsNonDecreasingBy, IsBinarySearchResult, IsSearchInRange, IsPartitionPoint}
use Rattle.std.specs.Cmp.{IsTotalOrder}
use Rattle.std.specs.Ordering.{is_lt, is_eq, ordering_reverse, ordering_index, nat_cmp}
use Rattle.std.specs.declared.cmp.Ordering.{Ordering}
use Rattle.std.specs.declared.cmp.Ordering.TheVariants.{Less, Equal, Greater}
use Rattle.std.proofs.lemmas.Bool.{and_parts}
use Rattle.std.proofs.lemmas.Cmp.{ranked, by_ranked}
use Rattle.std.proofs.lemmas.List.Sorted.{searchable_from_sorted}
use Rattle.krieg_plan.proofs.Common.{Move, same, Maybe, Nothing, Just, Key, NodeTree, is_ascending}
use Rattle.krieg_theory.proofs.Ascending.{less_from}

module _ {X K : Type 0} (key : X → K) (tree : X → NodeTree) (cmp : K → K → Ordering) (o : IsTotalOrder cmp) (k : K) where
  abbrev lt : K → K → Bool
  lt a b = is_lt (cmp a b)

  -- what stands first under the key
  abbrev pub first_of : List X → Maybe Move Key
  first_of [] = Nothing
  first_of (x ∷ xs) = if same lt (key x) k then Just (tree x) else first_of xs

  same_at : (a : K) (r : Ordering) → cmp a k ≡ r → same lt a k ≡ is_eq r
  same_at a Less e = ap (λ q. not (is_lt q) && not (lt k a)) e
  same_at a Equal e = ap (λ q. not (is_lt q) && not (lt k a)) e ∙ ap (λ q. not (is_lt q)) (o.antisymm k a ∙ ap ordering_reverse e)
  same_at a Greater e = ap (λ q. not (is_lt q) && not (lt k a)) e ∙ ap (λ q. not (is_lt q)) (o.antisymm k a ∙ ap ordering_reverse e)

  ahead : (x : X) (xs : List X) → is_ascending lt (map key (x ∷ xs)) ≡ true → (i : ℕ) (d : X) → i < length xs → cmp (key x) (key (slice_index_or xs i d)) ≡ Less
  ahead x [] up i d b = absurd (omega arith)
  ahead x (y ∷ ys) up zero d b = less_from (cmp (key x) (key y)) (and_parts (lt (key x) (key y)) (is_ascending lt (map key (y ∷ ys))) up).0
  ahead x (y ∷ ys) up (suc i) d b =
      let both = and_parts (lt (key x) (key y)) (is_ascending lt (map key (y ∷ ys))) up in
      o.trans (key x) (key y) (key (slice_index_or ys i d)) (less_from (cmp (key x) (key y)) both.0) (ahead y ys both.1 i d (omega arith))

  behind : (x : X) (xs : List X) → is_ascending lt (map key (x ∷ xs)) ≡ true → is_ascending lt (map key xs) ≡ true
  behind x [] up = refl
  behind x (y ∷ ys) up = (and_parts (lt (key x) (key y)) (is_ascending lt (map key (y ∷ ys))) up).1

  next_more : (xs : List X) → is_ascending lt (map key xs) ≡ true → (i : ℕ) (d : X) → suc i < length xs → cmp (key (slice_index_or xs i d)) (key (slice_index_or xs (suc i) d)) ≡ Less
  next_more [] up i d b = absurd (omega arith)
  next_more (x ∷ xs) up zero d b = ahead x xs up zero d (omega arith)
  next_more (x ∷ xs) up (suc i) d b = next_more xs (behind x xs up) i d (omega arith)

  rises : (xs : List X) → is_ascending lt (map key xs) ≡ true → IsNonDecreasingBy (λ x. ordering_index (cmp (key x) k)) xs
  rises xs up = searchable_from_sorted o key xs k
      (λ i d low b.
      let e : suc i ≡ i + 1 = omega arith in
      subst (λ n. lt (key (slice_index_or xs n d)) (key (slice_index_or xs i d)) ≡ false) e
      (ap is_lt (o.antisymm (key (slice_index_or xs (suc i) d)) (key (slice_index_or xs i d)) ∙ ap ordering_reverse (next_more xs up i d (omega arith)))))

  -- a key that stands before one that compares equal to k stands before k
  before_equal : (a b : K) → cmp a b ≡ Less → cmp b k ≡ Equal → cmp a k ≡ Less
  before_equal a b h e = o.antisymm a k ∙ ap ordering_reverse (sym (o.congr b k a e) ∙ o.antisymm b a ∙ ap ordering_reverse h)

  hit : (xs : List X) → is_ascending lt (map key xs) ≡ true → (i : ℕ) (d : X) → i < length xs → cmp (key (slice_index_or xs i d)) k ≡ Equal → first_of xs ≡ Just (tree (slice_index_or xs i d))
  hit [] up i d b e = absurd (omega arith)
  hit (x ∷ xs) up zero d b e = ap (λ c. if c then Just (tree x) else first_of xs) (same_at (key x) Equal e)
  hit (x ∷ xs) up (suc i) d b e =
      ap (λ c. if c then Just (tree x) else first_of xs) (same_at (key x) Less (before_equal (key x) (key (slice_index_or xs i d)) (ahead x xs up i d (omega arith)) e))
      ∙ hit xs (behind x xs up) i d (omega arith) e

  miss : (xs : List X) → ((i : ℕ) (d : X) → i < length xs → is_eq (cmp (key (slice_index_or xs i d)) k) ≡ false) → first_of xs ≡ Nothing
  miss [] h = refl
  miss (x ∷ xs) h =
      ap (λ c. if c then Just (tree x) else first_of xs) (same_at (key x) (cmp (key x) k) refl ∙ h zero x (omega arith))
      ∙ miss xs (λ i d b. h (suc i) d (omega arith))

  pub searched : (whole : Maybe Move Key) (xs : List X) → whole ≡ first_of xs → is_ascending lt (map key xs) ≡ true → (r : Result ℕ ℕ) → IsSearchInRange r (length xs) → IsBinarySearchResult (λ x. cmp (key x) k) xs r →
      MatchResult r (λ i. (d : X) → whole ≡ Just (tree (slice_index_or xs i d))) (λ i. whole ≡ Nothing)
  searched whole xs e up (Ok i) b h = λ d. e ∙ hit xs up i d b (h d)
  searched whole xs e up (Err i) b h = e ∙ miss xs (λ j d c. apart (h (rises xs up)) j d c)
    where
      apart : IsPartitionPoint (λ x. cmp (key x) k ≡ Less) (λ x. cmp (key x) k ≡ Greater) xs i → (j : ℕ) (d : X) → j < length xs → is_eq (cmp (key (slice_index_or xs j d)) k) ≡ false
      apart p j d c =
          let high = λ (a : i ≤ j). ap is_eq (p.1 j d a c) in
          by_ranked (j < i) (j ≡ i) (i < j) (nat_cmp j i) (ranked j i (nat_cmp j i) refl)
          (λ e a. ap is_eq (p.0 j d (omega arith) a)) (λ e a. high (omega arith)) (λ e a. high (omega arith))

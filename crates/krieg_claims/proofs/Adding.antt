-- Pairs that are added to others, each once, and their places.
use Rattle.std.proofs.Common.{◌≡◌, ℕ, suc, true, false, ◌⊎◌, List, [], ◌∷◌, ◌++◌, map, Some, refl, sym, ap, subst, inl, inr, ◌∙◌, append_assoc, append-nil}
use Rattle.std.specs.List.{list_any}
use Rattle.std.proofs.lemmas.Bool.{cases_Bool, cond-true, cond-false, both_ways, false_from_ne_true}
use Rattle.krieg_claims.proofs.Common.{In, Game, IsGame, Pair, same_pair, IsOnce, cited, claimed, add_once, add_all, ClaimedOnce, index_of, place_of}
use Rattle.krieg_theory.proofs.Lists.{any_at, any_from, in_append_left, in_append_right, append_in}
use Rattle.krieg_costs.proofs.Pairs.{same_pair_eq, same_pair_refl}

module _ (G : Game) (L : IsGame G) where
  -- one pair
  pub added_there : (qs : List (Pair G)) (q : Pair G) → In q qs → add_once G qs q ≡ qs
  added_there qs q i = cond-true (list_any (same_pair G q) qs) qs (qs ++ q ∷ []) (any_from (same_pair G q) qs q i (same_pair_refl G L q))

  pub added_new : (qs : List (Pair G)) (q : Pair G) → (In q qs → ⊥) → add_once G qs q ≡ qs ++ q ∷ []
  added_new qs q n =
      cond-false (list_any (same_pair G q) qs) qs (qs ++ q ∷ [])
      (false_from_ne_true _ (λ e. let a = any_at (same_pair G q) qs e in n (subst (λ x. In x qs) (sym (same_pair_eq G L q a.0 a.2)) a.1)))

  pub is_there : (qs : List (Pair G)) (q : Pair G) → In q qs ⊎ (In q qs → ⊥)
  is_there qs q = go (cases_Bool (list_any (same_pair G q) qs))
    where
      go : (list_any (same_pair G q) qs ≡ true) ⊎ (list_any (same_pair G q) qs ≡ false) → In q qs ⊎ (In q qs → ⊥)
      go (inl e) = let a = any_at (same_pair G q) qs e in inl (subst (λ x. In x qs) (sym (same_pair_eq G L q a.0 a.2)) a.1)
      go (inr e) = inr (λ i. both_ways _ e (any_from (same_pair G q) qs q i (same_pair_refl G L q)))

  -- what was added stands behind what was there
  pub added_more : (qs : List (Pair G)) (q : Pair G) → (rs : List (Pair G)) × (add_once G qs q ≡ qs ++ rs)
  added_more qs q = go (is_there qs q)
    where
      go : In q qs ⊎ (In q qs → ⊥) → (rs : List (Pair G)) × (add_once G qs q ≡ qs ++ rs)
      go (inl i) = ([], added_there qs q i ∙ sym (append-nil qs))
      go (inr n) = (q ∷ [], added_new qs q n)

  pub added_keeps : (qs : List (Pair G)) (q p : Pair G) → In p qs → In p (add_once G qs q)
  added_keeps qs q p i = let m = added_more qs q in subst (In p) (sym m.1) (in_append_left qs m.0 p i)

  pub in_added : (qs : List (Pair G)) (q : Pair G) → In q (add_once G qs q)
  in_added qs q = go (is_there qs q)
    where
      go : In q qs ⊎ (In q qs → ⊥) → In q (add_once G qs q)
      go (inl i) = subst (In q) (sym (added_there qs q i)) i
      go (inr n) = subst (In q) (sym (added_new qs q n)) (in_append_right qs (q ∷ []) q (inl refl))

  pub added_in : (qs : List (Pair G)) (q p : Pair G) → In p (add_once G qs q) → In p qs ⊎ (q ≡ p)
  added_in qs q p i = go (is_there qs q)
    where
      last : In p qs ⊎ In p (q ∷ []) → In p qs ⊎ (q ≡ p)
      last (inl k) = inl k
      last (inr (inl e)) = inr e
      last (inr (inr k)) = absurd k

      go : In q qs ⊎ (In q qs → ⊥) → In p qs ⊎ (q ≡ p)
      go (inl k) = inl (subst (In p) (added_there qs q k) i)
      go (inr n) = last (append_in qs (q ∷ []) p (subst (In p) (added_new qs q n) i))

  -- all pairs of a list
  pub all_append : (qs ps rs : List (Pair G)) → add_all G qs (ps ++ rs) ≡ add_all G (add_all G qs ps) rs
  all_append qs [] rs = refl
  all_append qs (p ∷ ps) rs = all_append (add_once G qs p) ps rs

  pub all_there : (qs ps : List (Pair G)) → ((p : Pair G) → In p ps → In p qs) → add_all G qs ps ≡ qs
  all_there qs [] h = refl
  all_there qs (p ∷ ps) h = ap (λ x. add_all G x ps) (added_there qs p (h p (inl refl))) ∙ all_there qs ps (λ q i. h q (inr i))

  pub all_more : (qs ps : List (Pair G)) → (rs : List (Pair G)) × (add_all G qs ps ≡ qs ++ rs)
  all_more qs [] = ([], sym (append-nil qs))
  all_more qs (p ∷ ps) =
      let a = added_more qs p in
      let b = all_more (add_once G qs p) ps in
      (a.0 ++ b.0, b.1 ∙ ap (λ x. x ++ b.0) a.1 ∙ append_assoc qs a.0 b.0)

  pub all_keeps : (qs ps : List (Pair G)) (p : Pair G) → In p qs → In p (add_all G qs ps)
  all_keeps qs ps p i = let m = all_more qs ps in subst (In p) (sym m.1) (in_append_left qs m.0 p i)

  pub in_all : (qs ps : List (Pair G)) (p : Pair G) → In p ps → In p (add_all G qs ps)
  in_all qs [] p i = absurd i
  in_all qs (q ∷ ps) p (inl e) = all_keeps (add_once G qs q) ps p (subst (λ x. In x (add_once G qs q)) e (in_added qs q))
  in_all qs (q ∷ ps) p (inr i) = in_all (add_once G qs q) ps p i

  pub all_in : (qs ps : List (Pair G)) (p : Pair G) → In p (add_all G qs ps) → In p qs ⊎ In p ps
  all_in qs [] p i = inl i
  all_in qs (q ∷ ps) p i = go (all_in (add_once G qs q) ps p i)
    where
      first : In p qs ⊎ (q ≡ p) → In p qs ⊎ In p (q ∷ ps)
      first (inl k) = inl k
      first (inr e) = inr (inl e)

      go : In p (add_once G qs q) ⊎ In p ps → In p qs ⊎ In p (q ∷ ps)
      go (inl k) = first (added_in qs q p k)
      go (inr k) = inr (inr k)

  -- nothing stands twice
  once_more : (qs : List (Pair G)) (q : Pair G) → IsOnce qs → (In q qs → ⊥) → IsOnce (qs ++ q ∷ [])
  once_more [] q o n = (λ i. i, tt)
  once_more (p ∷ qs) q o n = (λ i. go (append_in qs (q ∷ []) p i), once_more qs q o.1 (λ i. n (inr i)))
    where
      go : In p qs ⊎ In p (q ∷ []) → ⊥
      go (inl i) = o.0 i
      go (inr (inl e)) = n (inl (sym e))
      go (inr (inr i)) = i

  added_once : (qs : List (Pair G)) (q : Pair G) → IsOnce qs → IsOnce (add_once G qs q)
  added_once qs q o = go (is_there qs q)
    where
      go : In q qs ⊎ (In q qs → ⊥) → IsOnce (add_once G qs q)
      go (inl i) = subst IsOnce (sym (added_there qs q i)) o
      go (inr n) = subst IsOnce (sym (added_new qs q n)) (once_more qs q o n)

  pub all_once : (qs ps : List (Pair G)) → IsOnce qs → IsOnce (add_all G qs ps)
  all_once qs [] o = o
  all_once qs (p ∷ ps) o = all_once (add_once G qs p) ps (added_once qs p o)

  pub claimed_once : ClaimedOnce G
  claimed_once j B = all_once [] (claimed G j B) tt

  -- places
  pub index_left : (ps rs : List (Pair G)) (q : Pair G) → In q ps → index_of G (ps ++ rs) q ≡ index_of G ps q
  index_left [] rs q i = absurd i
  index_left (p ∷ ps) rs q i = go (cases_Bool (same_pair G p q)) i (index_left ps rs q)
    where
      go : (same_pair G p q ≡ true) ⊎ (same_pair G p q ≡ false) → (p ≡ q) ⊎ In q ps → (In q ps → index_of G (ps ++ rs) q ≡ index_of G ps q) → index_of G (p ∷ ps ++ rs) q ≡ index_of G (p ∷ ps) q
      go (inl e) k ih = cond-true (same_pair G p q) 0 (suc (index_of G (ps ++ rs) q)) e ∙ sym (cond-true (same_pair G p q) 0 (suc (index_of G ps q)) e)
      go (inr e) (inl k) ih = absurd (both_ways _ e (subst (λ x. same_pair G p x ≡ true) k (same_pair_refl G L p)))
      go (inr e) (inr k) ih = cond-false (same_pair G p q) 0 (suc (index_of G (ps ++ rs) q)) e ∙ ap suc (ih k) ∙ sym (cond-false (same_pair G p q) 0 (suc (index_of G ps q)) e)

  -- what is cited by the place of a pair is what was made of it
  pub cited_at : {X : Type 0} (f : Pair G → X) (ps : List (Pair G)) (q : Pair G) → In q ps → cited (map f ps) (place_of G ps q) ≡ Some (f q)
  cited_at f [] q i = absurd i
  cited_at {X} f (p ∷ ps) q i = go (cases_Bool (same_pair G p q)) i (cited_at f ps q)
    where
      P : ℕ → Type 0
      P k = cited (f p ∷ map f ps) (suc k) ≡ Some (f q)

      go : (same_pair G p q ≡ true) ⊎ (same_pair G p q ≡ false) → (p ≡ q) ⊎ In q ps → (In q ps → cited (map f ps) (place_of G ps q) ≡ Some (f q)) → P (index_of G (p ∷ ps) q)
      go (inl e) k ih = subst P (sym (cond-true (same_pair G p q) 0 (suc (index_of G ps q)) e)) (ap (λ x. Some (f x)) (same_pair_eq G L p q e))
      go (inr e) (inl k) ih = absurd (both_ways _ e (subst (λ x. same_pair G p x ≡ true) k (same_pair_refl G L p)))
      go (inr e) (inr k) ih = subst P (sym (cond-false (same_pair G p q) 0 (suc (index_of G ps q)) e)) (ih k)

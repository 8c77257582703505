-- A table with one entry more at its end.
use Rattle.std.proofs.Common.{◌≡◌, ℕ, ◌+◌, Bool, true, false, cond, ◌⊎◌, [], ◌∷◌, ◌++◌, Option, Some, None, refl, sym, inl, inr, ◌∙◌, arith}
use Rattle.std.proofs.lemmas.Bool.{cases_Bool, cond-true, cond-false, and_parts, and_from, eqb-true, eq-eqb}
use Rattle.krieg_accounts.proofs.Common.{IsOrder, total, PairOf, Entries, same_entry, stored, pairs, AddsResult}
use Rattle.krieg_costs.proofs.Pairs.{same_list_eq, same_list_refl}

module _ {P : Type 0} (lt : P → P → Bool) (O : IsOrder lt) where
  pub entry_is : (a b : PairOf P) → same_entry lt a b ≡ true → a ≡ b
  entry_is a b h =
      let c = and_parts _ _ h in
      let e = same_list_eq lt O a.0 b.0 c.1 in
      let d = eqb-true a.1 b.1 c.0 in
      λ i. (e i, d i)

  pub entry_refl : (a : PairOf P) → same_entry lt a a ≡ true
  entry_refl a = and_from _ _ (eq-eqb a.1 a.1 refl) (same_list_refl lt O a.0)

module _ {P M : Type 0} (lt : P → P → Bool) (O : IsOrder lt) where
  here : (T : Entries P M) (q : PairOf P) (o : Option M) → stored lt T q ≡ None → stored lt (T ++ (q, o) ∷ []) q ≡ Some o
  here [] q o n = cond-true (same_entry lt q q) (Some o) None (entry_refl lt O q)
  here (e ∷ T) q o n = go (cases_Bool (same_entry lt e.0 q)) (here T q o)
    where
      go : (same_entry lt e.0 q ≡ true) ⊎ (same_entry lt e.0 q ≡ false) → (stored lt T q ≡ None → stored lt (T ++ (q, o) ∷ []) q ≡ Some o) → stored lt (e ∷ T ++ (q, o) ∷ []) q ≡ Some o
      go (inl s) r = absurd (let k : ◌≡◌ {A = Option (Option M)} (Some e.1) None = sym (cond-true (same_entry lt e.0 q) (Some e.1) (stored lt T q) s) ∙ n in cc)
      go (inr s) r = cond-false (same_entry lt e.0 q) (Some e.1) (stored lt (T ++ (q, o) ∷ []) q) s ∙ r (sym (cond-false (same_entry lt e.0 q) (Some e.1) (stored lt T q) s) ∙ n)

  kept : (T : Entries P M) (q : PairOf P) (o : Option M) (p : PairOf P) (x : Option M) → stored lt T p ≡ Some x → stored lt (T ++ (q, o) ∷ []) p ≡ Some x
  kept [] q o p x h = absurd (let k : ◌≡◌ {A = Option (Option M)} None (Some x) = h in cc)
  kept (e ∷ T) q o p x h = go (same_entry lt e.0 p) h (kept T q o p x)
    where
      go : (b : Bool) → cond b (Some e.1) (stored lt T p) ≡ Some x → (stored lt T p ≡ Some x → stored lt (T ++ (q, o) ∷ []) p ≡ Some x) → cond b (Some e.1) (stored lt (T ++ (q, o) ∷ []) p) ≡ Some x
      go true k f = k
      go false k f = f k

  nothing_else : (T : Entries P M) (q : PairOf P) (o : Option M) (p : PairOf P) (x : Option M) → stored lt (T ++ (q, o) ∷ []) p ≡ Some x → (stored lt T p ≡ Some x) ⊎ ((q ≡ p) × (o ≡ x))
  nothing_else [] q o p x h = go (cases_Bool (same_entry lt q p))
    where
      go : (same_entry lt q p ≡ true) ⊎ (same_entry lt q p ≡ false) → (◌≡◌ {A = Option (Option M)} None (Some x)) ⊎ ((q ≡ p) × (o ≡ x))
      go (inl e) = inr (entry_is lt O q p e, (let k : Some o ≡ Some x = sym (cond-true (same_entry lt q p) (Some o) None e) ∙ h in cc))
      go (inr e) = inl (sym (cond-false (same_entry lt q p) (Some o) None e) ∙ h)
  nothing_else (e ∷ T) q o p x h = go (same_entry lt e.0 p) h (nothing_else T q o p x)
    where
      go : (b : Bool) → cond b (Some e.1) (stored lt (T ++ (q, o) ∷ []) p) ≡ Some x → (stored lt (T ++ (q, o) ∷ []) p ≡ Some x → (stored lt T p ≡ Some x) ⊎ ((q ≡ p) × (o ≡ x))) → (cond b (Some e.1) (stored lt T p) ≡ Some x) ⊎ ((q ≡ p) × (o ≡ x))
      go true k f = inl k
      go false k f = f k

  one_more : (T : Entries P M) (q : PairOf P) (o : Option M) (f : PairOf P → ℕ) → total f (pairs (T ++ (q, o) ∷ [])) ≡ f q + total f (pairs T)
  one_more [] q o f = refl
  one_more (e ∷ T) q o f = let ih = one_more T q o f in omega arith

  pub appended : (T : Entries P M) (q : PairOf P) (o : Option M) → stored lt T q ≡ None → AddsResult lt T (T ++ (q, o) ∷ []) q o
  appended T q o n = record {
    fresh = n;
    here = here T q o n;
    kept = kept T q o;
    nothing_else = nothing_else T q o;
    one_more = one_more T q o;
  }

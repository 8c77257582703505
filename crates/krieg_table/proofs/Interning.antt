-- The rows once a set has come: it has its number, and all else is as it was.
use Rattle.std.proofs.Common.{◌≡◌, ℕ, zero, suc, ◌≤◌, ◌<◌, Bool, true, false, ◌⊎◌, inl, inr, List, [], ◌∷◌, ◌++◌, length, refl, sym, ap, subst, ◌∙◌, arith}
use Rattle.std.proofs.lemmas.Bool.{cases_Bool, cond-true, cond-false, both_ways}
use Rattle.krieg_table.proofs.Common.{Pos, position_lt, In, same_list, IsOnce, nothing, Row, SetRows, sets, set_at, number_of, interned, entries, AreResults, IsTable, IsInterned}
use Rattle.krieg_table.proofs.Sets.{one_set, set_itself}

abbrev has : List Pos → Row → Bool
has B r = same_list position_lt r.0 B

-- in the two cases of the first row
module _ (B : List Pos) (r : Row) (T : SetRows) where
  pub rows_there : has B r ≡ true → interned B (r ∷ T) ≡ r ∷ T
  rows_there e = cond-true (has B r) (r ∷ T) (r ∷ interned B T) e

  pub rows_later : has B r ≡ false → interned B (r ∷ T) ≡ r ∷ interned B T
  rows_later e = cond-false (has B r) (r ∷ T) (r ∷ interned B T) e

  pub number_there : has B r ≡ true → number_of B (r ∷ T) ≡ 0
  number_there e = cond-true (has B r) 0 (suc (number_of B T)) e

  pub number_later : has B r ≡ false → number_of B (r ∷ T) ≡ suc (number_of B T)
  number_later e = cond-false (has B r) 0 (suc (number_of B T)) e

module _ (B : List Pos) where
  pub number_within : (T : SetRows) → number_of B T < length (interned B T)
  number_within [] = omega arith
  number_within (r ∷ T) = go (cases_Bool (has B r)) (number_within T)
    where
      go : (has B r ≡ true) ⊎ (has B r ≡ false) → number_of B T < length (interned B T) → number_of B (r ∷ T) < length (interned B (r ∷ T))
      go (inl e) h = let n = number_there B r T e in let l = ap (λ (x : SetRows). length x) (rows_there B r T e) in omega arith
      go (inr e) h = let n = number_later B r T e in let l = ap (λ (x : SetRows). length x) (rows_later B r T e) in omega arith

  pub number_at_most : (T : SetRows) → number_of B T ≤ length T
  number_at_most [] = omega arith
  number_at_most (r ∷ T) = go (cases_Bool (has B r)) (number_at_most T)
    where
      go : (has B r ≡ true) ⊎ (has B r ≡ false) → number_of B T ≤ length T → number_of B (r ∷ T) ≤ length (r ∷ T)
      go (inl e) h = let n = number_there B r T e in omega arith
      go (inr e) h = let n = number_later B r T e in omega arith

  set_there : (T : SetRows) → set_at (interned B T) (number_of B T) ≡ B
  set_there [] = refl
  set_there (r ∷ T) = go (cases_Bool (has B r)) (set_there T)
    where
      go : (has B r ≡ true) ⊎ (has B r ≡ false) → set_at (interned B T) (number_of B T) ≡ B → set_at (interned B (r ∷ T)) (number_of B (r ∷ T)) ≡ B
      go (inl e) h = ap (λ (x : SetRows). set_at x (number_of B (r ∷ T))) (rows_there B r T e) ∙ ap (set_at (r ∷ T)) (number_there B r T e) ∙ one_set r.0 B e
      go (inr e) h = ap (λ (x : SetRows). set_at x (number_of B (r ∷ T))) (rows_later B r T e) ∙ ap (set_at (r ∷ interned B T)) (number_later B r T e) ∙ h

  longer : (T : SetRows) → length T ≤ length (interned B T)
  longer [] = omega arith
  longer (r ∷ T) = go (cases_Bool (has B r)) (longer T)
    where
      go : (has B r ≡ true) ⊎ (has B r ≡ false) → length T ≤ length (interned B T) → length (r ∷ T) ≤ length (interned B (r ∷ T))
      go (inl e) h = let l = ap (λ (x : SetRows). length x) (rows_there B r T e) in omega arith
      go (inr e) h = let l = ap (λ (x : SetRows). length x) (rows_later B r T e) in omega arith

  same : (T : SetRows) (k : ℕ) → k < length T → set_at (interned B T) k ≡ set_at T k
  same [] k h = absurd (omega arith)
  same (r ∷ T) k h = go (λ k l. same T k l) (cases_Bool (has B r))
    where
      Same : Type 0
      Same = (k : ℕ) → k < length T → set_at (interned B T) k ≡ set_at T k

      later : Same → (k : ℕ) → k < length (r ∷ T) → set_at (r ∷ interned B T) k ≡ set_at (r ∷ T) k
      later ih zero l = refl
      later ih (suc k) l = ih k (omega arith)

      go : Same → (has B r ≡ true) ⊎ (has B r ≡ false) → set_at (interned B (r ∷ T)) k ≡ set_at (r ∷ T) k
      go ih (inl e) = ap (λ (x : SetRows). set_at x k) (rows_there B r T e)
      go ih (inr e) = ap (λ (x : SetRows). set_at x k) (rows_later B r T e) ∙ later ih k h

  only : (T : SetRows) (k : ℕ) → k < length (interned B T) → (k < length T) ⊎ (set_at (interned B T) k ≡ B)
  only [] zero h = inr refl
  only [] (suc k) h = absurd (omega arith)
  only (r ∷ T) k h = go (λ k l. only T k l) (cases_Bool (has B r))
    where
      Only : Type 0
      Only = (k : ℕ) → k < length (interned B T) → (k < length T) ⊎ (set_at (interned B T) k ≡ B)

      one_later : (k : ℕ) → (k < length T) ⊎ (set_at (interned B T) k ≡ B) → (suc k < length (r ∷ T)) ⊎ (set_at (interned B T) k ≡ B)
      one_later k (inl l) = inl (omega arith)
      one_later k (inr e) = inr e

      later : Only → (k : ℕ) → k < length (r ∷ interned B T) → (k < length (r ∷ T)) ⊎ (set_at (r ∷ interned B T) k ≡ B)
      later ih zero l = inl (omega arith)
      later ih (suc k) l = one_later k (ih k (omega arith))

      go : Only → (has B r ≡ true) ⊎ (has B r ≡ false) → (k < length (r ∷ T)) ⊎ (set_at (interned B (r ∷ T)) k ≡ B)
      go ih (inl e) = inl (let l = ap (λ (x : SetRows). length x) (rows_there B r T e) in omega arith)
      go ih (inr e) = subst (λ (x : SetRows). (k < length (r ∷ T)) ⊎ (set_at x k ≡ B)) (sym (rows_later B r T e)) (later ih k (let l = ap (λ (x : SetRows). length x) (rows_later B r T e) in omega arith))

  results_stay : (T : SetRows) → entries (interned B T) ≡ entries T
  unfolding entries
  results_stay [] = refl
  results_stay (r ∷ T) = go (cases_Bool (has B r)) (results_stay T)
    where
      go : (has B r ≡ true) ⊎ (has B r ≡ false) → entries (interned B T) ≡ entries T → entries (interned B (r ∷ T)) ≡ entries (r ∷ T)
      go (inl e) h = ap entries (rows_there B r T e)
      go (inr e) h = ap entries (rows_later B r T e) ∙ ap (λ es. Rattle.krieg_table.specs.Entries.row_entries r.0 r.1 ++ es) h

  pub interned_is : (T : SetRows) → IsInterned T (interned B T) B (number_of B T)
  interned_is T = record {
    within = number_within T;
    at = set_there T;
    more = record { longer = longer T; same = same T };
    only = only T;
    noted = results_stay T;
  }

  in_interned : (T : SetRows) (r : Row) → In r (interned B T) → In r T ⊎ ((B, nothing) ≡ r)
  in_interned [] r (inl e) = inr e
  in_interned [] r (inr i) = absurd i
  in_interned (s ∷ T) r i = go (cases_Bool (has B s)) (in_interned T r)
    where
      later : In r T ⊎ ((B, nothing) ≡ r) → In r (s ∷ T) ⊎ ((B, nothing) ≡ r)
      later (inl a) = inl (inr a)
      later (inr e) = inr e

      first : In r (s ∷ interned B T) → (In r (interned B T) → In r T ⊎ ((B, nothing) ≡ r)) → In r (s ∷ T) ⊎ ((B, nothing) ≡ r)
      first (inl e) h = inl (inl e)
      first (inr a) h = later (h a)

      go : (has B s ≡ true) ⊎ (has B s ≡ false) → (In r (interned B T) → In r T ⊎ ((B, nothing) ≡ r)) → In r (s ∷ T) ⊎ ((B, nothing) ≡ r)
      go (inl e) h = inl (subst (In r) (rows_there B s T e) i)
      go (inr e) h = first (subst (In r) (rows_later B s T e) i) h

  in_sets : (T : SetRows) (X : List Pos) → In X (sets (interned B T)) → In X (sets T) ⊎ (B ≡ X)
  in_sets [] X (inl e) = inr e
  in_sets [] X (inr i) = absurd i
  in_sets (s ∷ T) X i = go (cases_Bool (has B s)) (in_sets T X)
    where
      later : In X (sets T) ⊎ (B ≡ X) → In X (sets (s ∷ T)) ⊎ (B ≡ X)
      later (inl a) = inl (inr a)
      later (inr e) = inr e

      first : In X (sets (s ∷ interned B T)) → (In X (sets (interned B T)) → In X (sets T) ⊎ (B ≡ X)) → In X (sets (s ∷ T)) ⊎ (B ≡ X)
      first (inl e) h = inl (inl e)
      first (inr a) h = later (h a)

      go : (has B s ≡ true) ⊎ (has B s ≡ false) → (In X (sets (interned B T)) → In X (sets T) ⊎ (B ≡ X)) → In X (sets (s ∷ T)) ⊎ (B ≡ X)
      go (inl e) h = inl (subst (λ (x : SetRows). In X (sets x)) (rows_there B s T e) i)
      go (inr e) h = first (subst (λ (x : SetRows). In X (sets x)) (rows_later B s T e) i) h

  stays_once : (T : SetRows) → IsOnce (sets T) → IsOnce (sets (interned B T))
  stays_once [] o = ((λ i. i), tt)
  stays_once (s ∷ T) o = go (cases_Bool (has B s)) (stays_once T o.1)
    where
      not_there : has B s ≡ false → In s.0 (sets T) ⊎ (B ≡ s.0) → ⊥
      not_there e (inl a) = o.0 a
      not_there e (inr q) = both_ways _ e (subst (λ (X : List Pos). same_list position_lt X B ≡ true) q (set_itself B))

      go : (has B s ≡ true) ⊎ (has B s ≡ false) → IsOnce (sets (interned B T)) → IsOnce (sets (interned B (s ∷ T)))
      go (inl e) h = subst (λ (x : SetRows). IsOnce (sets x)) (sym (rows_there B s T e)) o
      go (inr e) h = subst (λ (x : SetRows). IsOnce (sets x)) (sym (rows_later B s T e)) ((λ i. not_there e (in_sets T s.0 i)), h)

  pub stays_table : (T : SetRows) → IsTable T → IsTable (interned B T)
  stays_table T t = record { once = stays_once T t.once; results = λ r i. results r (in_interned T r i) }
    where
      results : (r : Row) → In r T ⊎ ((B, nothing) ≡ r) → AreResults r.1
      results r (inl i) = t.results r i
      results r (inr e) = subst (λ (x : Row). AreResults x.1) e tt

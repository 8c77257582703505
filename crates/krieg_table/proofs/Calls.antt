-- What the map's calls give, in the words of the table.
use Rattle.std.proofs.Common.{◌≡◌, ℕ, zero, suc, ◌+◌, ◌<◌, Bool, true, false, cond, not, ◌⊎◌, inl, inr, List, [], ◌∷◌, length, Option, Some, None, refl, sym, ap, subst, ◌∙◌, arith}
use Rattle.std.specs.Prelude.{slice_get, unwrap_or, map, Result, Ok, Err, OnErr}
use Rattle.std.specs.Map.{lookup, keys_of}
use Rattle.std.specs.List.{position_or_len}
use Rattle.std.specs.Cmp.Lexicographic.{pointwise}
use Rattle.std.proofs.lemmas.Bool.{cases_Bool, cond-true, cond-false, both_ways}
use Rattle.indexmap.specs.IndexMap.{insert_entry}
use Rattle.indexmap.specs.Layout.{set_value_at}
use Rattle.krieg_table.proofs.Common.{Pos, position_lt, position_eq, In, same_list, SetResult, Results, nothing, with_known, Follows, Row, SetRows, sets, row_at, number_of, interned, with_result, IsTable, IsInterned, IsNoted}
use Rattle.krieg_table.proofs.Sets.{test_is, set_itself}
use Rattle.krieg_table.proofs.Interning.{interned_is, stays_table}
use Rattle.krieg_table.proofs.Noting.{put_table, noted_is}

module _ (B : List Pos) where
  abbrev pub test : List Pos → Bool
  test X = pointwise position_eq B X

  -- the map after an insertion that leaves the results of a set that is there
  pub inserted : (T : SetRows) → insert_entry (pointwise position_eq) T B (unwrap_or (lookup test T) nothing) ≡ interned B T
  inserted [] = refl
  inserted (r ∷ T) = go (test r.0) (test_is B r.0) (inserted T)
    where
      go : (b : Bool) → b ≡ same_list position_lt r.0 B → insert_entry (pointwise position_eq) T B (unwrap_or (lookup test T) nothing) ≡ interned B T
          → cond b ((r.0, unwrap_or (cond b (Some r.1) (lookup test T)) nothing) ∷ T) (r ∷ insert_entry (pointwise position_eq) T B (unwrap_or (cond b (Some r.1) (lookup test T)) nothing)) ≡ interned B (r ∷ T)
      go true e h = sym (cond-true (same_list position_lt r.0 B) (r ∷ T) (r ∷ interned B T) (sym e))
      go false e h = ap (λ (x : SetRows). r ∷ x) h ∙ sym (cond-false (same_list position_lt r.0 B) (r ∷ T) (r ∷ interned B T) (sym e))

  one : (n : ℕ) → 1 + n ≡ suc n
  one n = omega arith

  -- and the place of the set in it
  pub placed : (T : SetRows) → position_or_len test (keys_of T) ≡ number_of B T
  placed [] = refl
  placed (r ∷ T) = go (test r.0) (test_is B r.0) (placed T)
    where
      go : (b : Bool) → b ≡ same_list position_lt r.0 B → position_or_len test (keys_of T) ≡ number_of B T → cond (not b) (1 + position_or_len test (keys_of T)) 0 ≡ number_of B (r ∷ T)
      go true e h = sym (cond-true (same_list position_lt r.0 B) 0 (suc (number_of B T)) (sym e))
      go false e h = ap (λ (n : ℕ). 1 + n) h ∙ one (number_of B T) ∙ sym (cond-false (same_list position_lt r.0 B) 0 (suc (number_of B T)) (sym e))

  pub absent : (T : SetRows) → lookup test T ≡ None → In B (sets T) → ⊥
  absent [] e i = i
  absent (r ∷ T) e i = go (cases_Bool (test r.0)) i (absent T)
    where
      go : (test r.0 ≡ true) ⊎ (test r.0 ≡ false) → (r.0 ≡ B) ⊎ In B (sets T) → (lookup test T ≡ None → In B (sets T) → ⊥) → ⊥
      go (inl t) j h = let q : ◌≡◌ {A = Option Results} (Some r.1) None = sym (cond-true (test r.0) (Some r.1) (lookup test T) t) ∙ e in cc
      go (inr t) (inl s) h = both_ways _ t (test_is B r.0 ∙ subst (λ (X : List Pos). same_list position_lt X B ≡ true) (sym s) (set_itself B))
      go (inr t) (inr j) h = h (sym (cond-false (test r.0) (Some r.1) (lookup test T) t) ∙ e) j

-- the row that a call by number gives
pub results_at : (T : SetRows) (id : ℕ) (rs : Results) → slice_get (map (λ (r : Row). r.1) T) id ≡ Some rs → (row_at T id).1 ≡ rs
results_at [] id rs h = absurd (let q : ◌≡◌ {A = Option Results} None (Some rs) = h in cc)
results_at (r ∷ T) zero rs h = let q : Some r.1 ≡ Some rs = h in cc
results_at (r ∷ T) (suc id) rs h = results_at T id rs h

-- a write by number
pub put_at : (T : SetRows) (id moves : ℕ) (k : SetResult) → set_value_at T id (with_known (row_at T id).1 moves k) ≡ with_result T id moves k
put_at [] id moves k = refl
put_at (r ∷ T) zero moves k = refl
put_at (r ∷ T) (suc id) moves k = ap (λ (x : SetRows). r ∷ x) (put_at T id moves k)

-- what is owed where a set has come
pub table_from : (B : List Pos) (T E : SetRows) → E ≡ interned B T → IsTable T → IsTable E
table_from B T E e t = subst IsTable (sym e) (stays_table B T t)

pub interned_from : (B : List Pos) (T E : SetRows) (id : ℕ) → E ≡ interned B T → id ≡ number_of B T → IsInterned T E B id
interned_from B T E id e n = subst (λ (x : SetRows). IsInterned T x B id) (sym e) (subst (λ (i : ℕ). IsInterned T (interned B T) B i) (sym n) (interned_is B T))

pub on_err : {A X P : Type 0} (r : Result A X) → P → OnErr r P
on_err (Ok a) p = tt
on_err (Err x) p = p

-- what is owed where a result was put in: T is the table before, now the row's results, and new what they became
module _ (T : SetRows) (id moves : ℕ) (k : SetResult) (now new : Results) (at : (row_at T id).1 ≡ now) (put : new ≡ with_known now moves k) where
  rows : set_value_at T id new ≡ with_result T id moves k
  rows = ap (set_value_at T id) (put ∙ ap (λ (x : Results). with_known x moves k) (sym at)) ∙ put_at T id moves k

  pub rows_put : (S : SetRows) → T ≡ S → set_value_at T id new ≡ with_result S id moves k
  rows_put S s = rows ∙ ap (λ (x : SetRows). with_result x id moves k) s

  pub table_put : (S : SetRows) → T ≡ S → IsTable T → Follows (row_at S id).1 moves k → IsTable (set_value_at T id new)
  table_put S s t x = subst IsTable (sym (rows_put S s)) (put_table S id moves k (subst IsTable s t) x)

  pub noted_put : (S : SetRows) → T ≡ S → IsTable T → id < length S → Follows (row_at S id).1 moves k → IsNoted S (set_value_at T id new) id moves k
  noted_put S s t l x = subst (λ (y : SetRows). IsNoted S y id moves k) (sym (rows_put S s)) (noted_is S id moves k (subst IsTable s t) l x)

-- The rows once a result has come.
use Rattle.std.proofs.Common.{◌≡◌, ℕ, zero, suc, ◌+◌, ◌<◌, true, false, ◌⊎◌, inl, inr, List, [], ◌∷◌, ◌++◌, length, Option, Some, None, option_map, refl, sym, ap, subst, ◌∙◌, arith}
use Rattle.std.proofs.lemmas.Bool.{cases_Bool, both_ways}
use Rattle.krieg_table.proofs.Common.{Pos, Move, position_lt, In, total, IsOnce, PairOf, Entries, same_entry, stored, pairs, AddsResult, SetResult, Wins, Loses, Results, known_for, with_known, AreResults, Follows, Row, SetRows, sets, row_at, set_at, known_at, with_result, try_of, row_entries, entries, IsTable, IsNoted}
use Rattle.krieg_pack.proofs.PositionSets.{position_order}
use Rattle.krieg_accounts.proofs.Appended.{entry_is, entry_refl}
use Rattle.krieg_table.proofs.RowEntries.{or_else, stored_append, other_set, at_number, others_stay, row_total, results_put, next_unknown, put_there}

set_in : (T : SetRows) (id : ℕ) → id < length T → In (set_at T id) (sets T)
set_in [] id l = absurd (omega arith)
set_in (r ∷ T) zero l = inl refl
set_in (r ∷ T) (suc id) l = inr (set_in T id (omega arith))

-- nothing is stored of a set that is not there
not_there : (T : SetRows) (q : PairOf Pos) → (In q.0 (sets T) → ⊥) → stored position_lt (entries T) q ≡ None
unfolding entries
not_there [] q h = refl
not_there (r ∷ T) q h =
    stored_append (row_entries r.0 r.1) (entries T) q ∙ ap (λ o. or_else o (stored position_lt (entries T) q)) (other_set r.0 r.1 q (λ e. h (inl e)))
    ∙ not_there T q (λ i. h (inr i))

-- what is stored of the first set is what its row has
in_row : (r : Row) (T : SetRows) (moves : ℕ) → AreResults r.1 → (In r.0 (sets T) → ⊥) → stored position_lt (row_entries r.0 r.1 ++ entries T) (r.0, moves) ≡ option_map try_of (known_for r.1 moves)
in_row r T moves a n = stored_append (row_entries r.0 r.1) (entries T) (r.0, moves) ∙ ap (λ o. or_else (stored position_lt (row_entries r.0 r.1) (r.0, moves)) o) (not_there T (r.0, moves) n) ∙ none_else (stored position_lt (row_entries r.0 r.1) (r.0, moves)) ∙ at_number r.0 r.1 moves a
  where
    none_else : (o : Option (Option Move)) → or_else o None ≡ o
    none_else None = refl
    none_else (Some x) = refl

-- what is known by number is what is stored by sets
pub known_is : (T : SetRows) (id moves : ℕ) → IsTable T → id < length T → option_map try_of (known_at T id moves) ≡ stored position_lt (entries T) (set_at T id, moves)
unfolding entries
known_is [] id moves t l = absurd (omega arith)
known_is (r ∷ T) zero moves t l = sym (in_row r T moves (t.results r (inl refl)) t.once.0)
known_is (r ∷ T) (suc id) moves t l =
    known_is T id moves (record { once = t.once.1; results = λ s i. t.results s (inr i) }) (omega arith)
    ∙ sym (stored_append (row_entries r.0 r.1) (entries T) (set_at T id, moves)
    ∙ ap (λ x. or_else x (stored position_lt (entries T) (set_at T id, moves))) (other_set r.0 r.1 (set_at T id, moves) (λ e. t.once.0 (subst (λ (X : List Pos). In X (sets T)) (sym e) (set_in T id (omega arith))))))

total_pairs : (f : PairOf Pos → ℕ) (xs ys : Entries Pos Move) → total f (pairs (xs ++ ys)) ≡ total f (pairs xs) + total f (pairs ys)
total_pairs f [] ys = omega arith
total_pairs f (x ∷ xs) ys = let ih = total_pairs f xs ys in omega arith

module _ (moves : ℕ) (k : SetResult) where
  pub same_sets : (T : SetRows) (id : ℕ) → sets (with_result T id moves k) ≡ sets T
  same_sets [] id = refl
  same_sets (r ∷ T) zero = refl
  same_sets (r ∷ T) (suc id) = ap (λ xs. r.0 ∷ xs) (same_sets T id)

  same_length : (T : SetRows) (id : ℕ) → length (with_result T id moves k) ≡ length T
  same_length [] id = refl
  same_length (r ∷ T) zero = refl
  same_length (r ∷ T) (suc id) = ap suc (same_length T id)

  same_at : (T : SetRows) (id : ℕ) → set_at (with_result T id moves k) id ≡ set_at T id
  same_at [] id = refl
  same_at (r ∷ T) zero = refl
  same_at (r ∷ T) (suc id) = same_at T id

-- the result may come next
module _ (n : ℕ) (k : SetResult) where
  known_there : (T : SetRows) (id : ℕ) → id < length T → 0 < n → Follows (row_at T id).1 n k → known_at (with_result T id n k) id n ≡ Some k
  known_there [] id l p x = absurd (omega arith)
  known_there (r ∷ T) zero l p x = put_there r.1 n k p x
  known_there (r ∷ T) (suc id) l p x = known_there T id (omega arith) p x

  others : (T : SetRows) (id : ℕ) (q : PairOf Pos) → id < length T → Follows (row_at T id).1 n k → (((set_at T id, n) ≡ q) → ⊥) → stored position_lt (entries (with_result T id n k)) q ≡ stored position_lt (entries T) q
  unfolding entries
  others [] id q l x h = absurd (omega arith)
  others (r ∷ T) zero q l x h =
      stored_append (row_entries r.0 (with_known r.1 n k)) (entries T) q ∙ ap (λ o. or_else o (stored position_lt (entries T) q)) (others_stay r.0 r.1 n k q x h)
      ∙ sym (stored_append (row_entries r.0 r.1) (entries T) q)
  others (r ∷ T) (suc id) q l x h =
      stored_append (row_entries r.0 r.1) (entries (with_result T id n k)) q ∙ ap (λ o. or_else (stored position_lt (row_entries r.0 r.1) q) o) (others T id q (omega arith) x h)
      ∙ sym (stored_append (row_entries r.0 r.1) (entries T) q)

  one_more : (f : PairOf Pos → ℕ) (T : SetRows) (id : ℕ) → id < length T → Follows (row_at T id).1 n k → total f (pairs (entries (with_result T id n k))) ≡ f (set_at T id, n) + total f (pairs (entries T))
  unfolding entries
  one_more f [] id l x = absurd (omega arith)
  one_more f (r ∷ T) zero l x =
      let a = row_total r.0 f r.1 n k x in
      let b = total_pairs f (row_entries r.0 (with_known r.1 n k)) (entries T) in
      let c = total_pairs f (row_entries r.0 r.1) (entries T) in
      omega arith
  one_more f (r ∷ T) (suc id) l x =
      let a = one_more f T id (omega arith) x in
      let b = total_pairs f (row_entries r.0 r.1) (entries (with_result T id n k)) in
      let c = total_pairs f (row_entries r.0 r.1) (entries T) in
      omega arith

-- a pair is the one that was noted, or another
module _ (T T' : Entries Pos Move) (p : PairOf Pos) (o : Option Move) (here : stored position_lt T' p ≡ Some o) (others : (q : PairOf Pos) → (p ≡ q → ⊥) → stored position_lt T' q ≡ stored position_lt T q) where
  same_or_not : (q : PairOf Pos) → (p ≡ q) ⊎ (p ≡ q → ⊥)
  same_or_not q = go (cases_Bool (same_entry position_lt p q))
    where
      go : (same_entry position_lt p q ≡ true) ⊎ (same_entry position_lt p q ≡ false) → (p ≡ q) ⊎ (p ≡ q → ⊥)
      go (inl e) = inl (entry_is position_lt position_order p q e)
      go (inr e) = inr (λ s. both_ways _ e (subst (λ (x : PairOf Pos). same_entry position_lt p x ≡ true) s (entry_refl position_lt position_order p)))

  adds : stored position_lt T p ≡ None → ((f : PairOf Pos → ℕ) → total f (pairs T') ≡ f p + total f (pairs T)) → AddsResult position_lt T T' p o
  adds none more = record {
    fresh = none;
    here = here;
    kept = λ q x h. kept q x h (same_or_not q);
    nothing_else = λ q x h. news q x h (same_or_not q);
    one_more = more;
  }
    where
      kept : (q : PairOf Pos) (x : Option Move) → stored position_lt T q ≡ Some x → (p ≡ q) ⊎ (p ≡ q → ⊥) → stored position_lt T' q ≡ Some x
      kept q x h (inl e) = absurd (let c : ◌≡◌ {A = Option (Option Move)} None (Some x) = sym none ∙ ap (stored position_lt T) e ∙ h in cc)
      kept q x h (inr n) = others q n ∙ h

      news : (q : PairOf Pos) (x : Option Move) → stored position_lt T' q ≡ Some x → (p ≡ q) ⊎ (p ≡ q → ⊥) → (stored position_lt T q ≡ Some x) ⊎ ((p ≡ q) × (o ≡ x))
      news q x h (inl e) = inr (e, (let c : Some o ≡ Some x = sym here ∙ ap (stored position_lt T') e ∙ h in cc))
      news q x h (inr n) = inl (sym (others q n) ∙ h)

pub row_in : (T : SetRows) (id : ℕ) → id < length T → In (row_at T id) T
row_in [] id l = absurd (omega arith)
row_in (r ∷ T) zero l = inl refl
row_in (r ∷ T) (suc id) l = inr (row_in T id (omega arith))

pub put_table : (T : SetRows) (id n : ℕ) (k : SetResult) → IsTable T → Follows (row_at T id).1 n k → IsTable (with_result T id n k)
put_table T id n k t x = record {
  once = subst IsOnce (sym (same_sets n k T id)) t.once;
  results = put T id (λ r i. t.results r i) x;
}
  where
    put : (T : SetRows) (id : ℕ) → ((r : Row) → In r T → AreResults r.1) → Follows (row_at T id).1 n k → (r : Row) → In r (with_result T id n k) → AreResults r.1
    put [] id a x r i = absurd i
    put (s ∷ T) zero a x r (inl e) = subst (λ (y : Row). AreResults y.1) e (results_put s.1 n k x (a s (inl refl)))
    put (s ∷ T) zero a x r (inr i) = a r (inr i)
    put (s ∷ T) (suc id) a x r (inl e) = subst (λ (y : Row). AreResults y.1) e (a s (inl refl))
    put (s ∷ T) (suc id) a x r (inr i) = put T id (λ y j. a y (inr j)) x r i

next_some : (rs : Results) (n : ℕ) (k : SetResult) → Follows rs n k → 0 < n
next_some rs n Loses x = let m = x.0 in omega arith
next_some rs n (Wins t) x = let m = x.0 in omega arith

pub noted_is : (T : SetRows) (id n : ℕ) (k : SetResult) → IsTable T → id < length T → Follows (row_at T id).1 n k → IsNoted T (with_result T id n k) id n k
noted_is T id n k t l x =
    let new = with_result T id n k in
    let at : stored position_lt (entries new) (set_at new id, n) ≡ Some (try_of k) =
    sym (known_is new id n (put_table T id n k t x) (let m = same_length n k T id in omega arith)) ∙ ap (option_map try_of) (known_there n k T id l (next_some (row_at T id).1 n k x) x) in
    let here : stored position_lt (entries new) (set_at T id, n) ≡ Some (try_of k) = subst (λ (X : List Pos). stored position_lt (entries new) (X, n) ≡ Some (try_of k)) (same_at n k T id) at in
    let rest : (q : PairOf Pos) → (((set_at T id, n) ≡ q) → ⊥) → stored position_lt (entries new) q ≡ stored position_lt (entries T) q = λ q h. others n k T id q l x h in
    let none : stored position_lt (entries T) (set_at T id, n) ≡ None = sym (known_is T id n t l) ∙ ap (option_map try_of) (next_unknown (row_at T id).1 n k x) in
    record {
      same_sets = same_sets n k T id;
      here = here;
      others = rest;
      added = adds (entries T) (entries new) (set_at T id, n) (try_of k) here rest none (λ f. one_more n k f T id l x);
    }

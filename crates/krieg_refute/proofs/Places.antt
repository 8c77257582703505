-- A set that has no claim yet with a number.
use Rattle.std.proofs.Common.{◌≡◌, ℕ, zero, suc, ◌<◌, ◌==◌, ◌&&◌, Bool, true, false, List, [], ◌∷◌, length, get_or, position, Some, refl, sym, ap, subst, inl, inr, ◌∙◌, arith}
use Rattle.std.specs.List.{list_any}
use Rattle.std.proofs.lemmas.List.Quantifiers.{position-Some}
use Rattle.std.proofs.lemmas.Bool.{both_ways, cond-true, cond-false, false_from_ne_true, and_parts, eqb-true}
use Rattle.krieg_refute.proofs.Common.{Pos, Dialect, IsOnce, same_pair, index_of, chess, SetRows, sets, set_at, Question, pairs_in}
use Rattle.krieg_theory.specs.Sets.{In}
use Rattle.krieg_theory.proofs.Lists.{any_from, map_in}
use Rattle.krieg_costs.proofs.Pairs.{same_pair_eq, same_pair_refl}
use Rattle.krieg_game.proofs.ChessLaws.{chess_is_game}

set_in : (T : SetRows) (i : ℕ) → i < length T → In (set_at T i) (sets T)
set_in [] i h = absurd (omega arith)
set_in (r ∷ T) zero h = inl refl
set_in (r ∷ T) (suc i) h = inr (set_in T i (omega arith))

-- no set has two numbers
pub same_number : (T : SetRows) → IsOnce (sets T) → (i k : ℕ) → i < length T → k < length T → set_at T i ≡ set_at T k → i ≡ k
same_number [] o i k h l e = absurd (omega arith)
same_number (r ∷ T) o zero zero h l e = refl
same_number (r ∷ T) o zero (suc k) h l e = absurd (o.0 (subst (λ X. In X (sets T)) (sym e) (set_in T k (omega arith))))
same_number (r ∷ T) o (suc i) zero h l e = absurd (o.0 (subst (λ X. In X (sets T)) e (set_in T i (omega arith))))
same_number (r ∷ T) o (suc i) (suc k) h l e = ap suc (same_number T o.1 i k (omega arith) (omega arith) e)

-- where no key passes a test that it would pass itself, it is not there
pub absent : (T : SetRows) (keys : List Question) (a : Question) (test : Question → Bool) → IsOnce (sets T) → a.set < length T → ((k : Question) → In k keys → k.set < length T) → test a ≡ true → list_any test keys ≡ false → In (set_at T a.set, a.moves) (pairs_in T keys) → ⊥
absent T keys a test once within numbered itself none i =
    let m = map_in {Y = List Pos × ℕ} (λ (k : Question). (set_at T k.set, k.moves)) keys (set_at T a.set, a.moves) i in
    let s = same_number T once m.0.set a.set (numbered m.0 m.1) within (ap (λ (q : List Pos × ℕ). q.0) m.2) in
    let n = ap (λ (q : List Pos × ℕ). q.1) m.2 in
    let is : m.0 ≡ a = λ i. record { set = s i; moves = n i } in
    both_ways _ none (any_from test keys m.0 m.1 (ap test is ∙ itself))

-- the first key that passes stands at the place of its set
module _ (d : Dialect) (T : SetRows) (once : IsOnce (sets T)) (a : Question) (within : a.set < length T) (test : Question → Bool) (itself : test a ≡ true) (is : (k : Question) → test k ≡ true → a ≡ k) where
  place_from : (keys : List Question) (i : ℕ) → ((k : Question) → In k keys → k.set < length T) → i < length keys → test (get_or keys i a) ≡ true → ((m : ℕ) → m < i → test (get_or keys m a) ≡ false)
      → In (set_at T a.set, a.moves) (pairs_in T keys) × (i ≡ index_of (chess d) (pairs_in T keys) (set_at T a.set, a.moves))
  place_from [] i h l t f = absurd (omega arith)
  place_from (k ∷ keys) zero h l t f =
      let p : ◌≡◌ {A = List Pos × ℕ} (set_at T k.set, k.moves) (set_at T a.set, a.moves) = ap (λ (x : Question). let y : List Pos × ℕ = (set_at T x.set, x.moves) in y) (sym (is k t)) in
      let z : index_of (chess d) (pairs_in T (k ∷ keys)) (set_at T a.set, a.moves) ≡ 0 =
      cond-true (same_pair (chess d) (set_at T k.set, k.moves) (set_at T a.set, a.moves)) 0 (suc (index_of (chess d) (pairs_in T keys) (set_at T a.set, a.moves)))
      (subst (λ (x : List Pos × ℕ). same_pair (chess d) (set_at T k.set, k.moves) x ≡ true) p (same_pair_refl (chess d) (chess_is_game d) (set_at T k.set, k.moves))) in
      (inl p, sym z)
  place_from (k ∷ keys) (suc i) h l t f =
      let r = place_from keys i (λ x m. h x (inr m)) (omega arith) t (λ m y. f (suc m) (omega arith)) in
      let other : same_pair (chess d) (set_at T k.set, k.moves) (set_at T a.set, a.moves) ≡ false = false_from_ne_true _ (λ x.
      (let p = same_pair_eq (chess d) (chess_is_game d) (set_at T k.set, k.moves) (set_at T a.set, a.moves) x in
      let s = same_number T once k.set a.set (h k (inl refl)) within (ap (λ (q : List Pos × ℕ). q.0) p) in
      let m = ap (λ (q : List Pos × ℕ). q.1) p in
      let both : k ≡ a = λ i. record { set = s i; moves = m i } in
      both_ways _ (f 0 (omega arith)) (ap test both ∙ itself))) in
      (inr r.0, ap suc r.1 ∙ sym (cond-false (same_pair (chess d) (set_at T k.set, k.moves) (set_at T a.set, a.moves)) 0 (suc (index_of (chess d) (pairs_in T keys) (set_at T a.set, a.moves))) other))

  pub place_at : (keys : List Question) (i : ℕ) → ((k : Question) → In k keys → k.set < length T) → position test keys ≡ Some i
      → In (set_at T a.set, a.moves) (pairs_in T keys) × (i ≡ index_of (chess d) (pairs_in T keys) (set_at T a.set, a.moves))
  place_at keys i h e = let p = position-Some test keys i a e in place_from keys i h p.0 p.1 p.2

pub same_asked : (a b : Question) → ((a.set == b.set) && (a.moves == b.moves)) ≡ true → a ≡ b
same_asked a b h =
    let p = and_parts (a.set == b.set) (a.moves == b.moves) h in
    let x = eqb-true a.set b.set p.0 in
    let y = eqb-true a.moves b.moves p.1 in
    λ i. record { set = x i; moves = y i }

-- What is taken for the keys fits into what is fresh: of a set that is won only the tries up to the first that wins were split.
use Rattle.std.proofs.Common.{◌≡◌, ℕ, zero, suc, ◌+◌, ◌≤◌, ◌<◌, Bool, true, false, cond, inl, inr, List, [], ◌∷◌, length, map, is_some, refl, sym, ap, subst, arith}
use Rattle.std.proofs.lemmas.Bool.{cond-true}
use Rattle.krieg_solve.proofs.Common.{Pos, Move, Dialect, In, begins, tries, total, made, price, floor_price, IsOnce, Entries, pairs, known, charged, all_owed, owed, chess, SetRows, set_at, sets, behind, later_price}
use Rattle.krieg_costs.specs.Sums.{up_to}
use Rattle.krieg_theory.proofs.Lists.{map_in}
use Rattle.krieg_costs.proofs.Totals.{total_add, total_agree, total_within}
use Rattle.krieg_accounts.proofs.Tables.{in_known}
use Rattle.krieg_game.proofs.ChessLaws.{chess_is_game}

-- up to the first that passes, and behind it, are all
parts_are_all : {X : Type 0} (g : X → ℕ) (f : X → Bool) (xs : List X) → total g (up_to f xs) + total g (behind f xs) ≡ total g xs
parts_are_all g f [] = refl
parts_are_all g f (x ∷ xs) =
    let ih = parts_are_all g f xs in
    elim (f x) as (λ b. (g x + total g (cond b [] (up_to f xs))) + total g (cond b xs (behind f xs)) ≡ g x + total g xs) [ true ↦ omega arith | false ↦ omega arith ]

module _ (d : Dialect) where
  pub floor_and_later : (q : List Pos × ℕ) → floor_price (chess d) q + later_price d q ≡ price (chess d) q.0
  floor_and_later q = parts_are_all (made (chess d) q.0) (begins (chess d) q.1 q.0) (tries (chess d) q.0)

  module _ (T : Entries Pos Move) where
    -- all splits of a set, where something is stored of it
    abbrev stored_price : List Pos × ℕ → ℕ
    stored_price q = cond (is_some (known (chess d) T q)) (price (chess d) q.0) 0

    stored_or_owed : (q : List Pos × ℕ) → stored_price q + owed (chess d) T q ≡ price (chess d) q.0
    stored_or_owed q = elim (is_some (known (chess d) T q)) as (λ b. cond b (price (chess d) q.0) 0 + cond b 0 (price (chess d) q.0) ≡ price (chess d) q.0) [ true ↦ omega arith | false ↦ omega arith ]

    stored_is : (q : List Pos × ℕ) → In q (pairs T) → price (chess d) q.0 ≡ stored_price q
    stored_is q i =
        let k = in_known (chess d) (chess_is_game d) T q i in
        sym (cond-true (is_some (known (chess d) T q)) (price (chess d) q.0) 0 (ap is_some k.1))

    -- of pairs that stand once in a table, whose pairs are within others, all tries behind the first that wins may be split
    pub within_prices : (R Ds : List (List Pos × ℕ)) → IsOnce (pairs T) → ((q : List Pos × ℕ) → In q (pairs T) → In q R) → IsOnce Ds → ((q : List Pos × ℕ) → In q Ds → In q (pairs T))
        → charged (chess d) T + total (later_price d) Ds + all_owed (chess d) R T ≤ total (λ q. price (chess d) q.0) R
    within_prices R Ds o reached once stored =
        let a = total_within (later_price d) (later_price d) Ds (pairs T) once stored (λ q. omega arith) in
        let b = total_add (floor_price (chess d)) (later_price d) (pairs T) in
        let c = total_agree (λ q. floor_price (chess d) q + later_price d q) (λ q. price (chess d) q.0) (pairs T) (λ q i. floor_and_later q) in
        let e = total_agree (λ q. price (chess d) q.0) stored_price (pairs T) stored_is in
        let f = total_within stored_price stored_price (pairs T) R o reached (λ q. omega arith) in
        let g = total_add stored_price (owed (chess d) T) R in
        let h = total_agree (λ q. stored_price q + owed (chess d) T q) (λ q. price (chess d) q.0) R (λ q i. stored_or_owed q) in
        omega arith

-- a set has one place in a table
pub set_in : (T : SetRows) (k : ℕ) → k < length T → In (set_at T k) (sets T)
set_in [] k l = absurd (omega arith)
set_in (r ∷ T) zero l = inl refl
set_in (r ∷ T) (suc k) l = inr (set_in T k (omega arith))

one_place : (T : SetRows) (a b : ℕ) → IsOnce (sets T) → a < length T → b < length T → set_at T a ≡ set_at T b → a ≡ b
one_place [] a b o l m e = absurd (omega arith)
one_place (r ∷ T) zero zero o l m e = refl
one_place (r ∷ T) zero (suc b) o l m e = absurd (o.0 (subst (λ X. In X (sets T)) (sym e) (set_in T b (omega arith))))
one_place (r ∷ T) (suc a) zero o l m e = absurd (o.0 (subst (λ X. In X (sets T)) e (set_in T a (omega arith))))
one_place (r ∷ T) (suc a) (suc b) o l m e = ap suc (one_place T a b o.1 (omega arith) (omega arith) e)

-- the pairs of different sets are different
module _ (T : SetRows) (f : ℕ → ℕ) where
  abbrev pub pair_of : ℕ → List Pos × ℕ
  pair_of k = (set_at T k, f k)

  pub pairs_once : IsOnce (sets T) → (ks : List ℕ) → ((k : ℕ) → In k ks → k < length T) → IsOnce ks → IsOnce (map pair_of ks)
  pairs_once o [] within once = tt
  pairs_once o (k ∷ ks) within once = (apart, pairs_once o ks (λ j i. within j (inr i)) once.1)
    where
      apart : In (pair_of k) (map pair_of ks) → ⊥
      apart i =
          let m = map_in pair_of ks (pair_of k) i in
          once.0 (subst (λ j. In j ks) (one_place T m.0 k o (within m.0 (inr m.1)) (within k (inl refl)) (ap (λ (q : List Pos × ℕ). q.0) m.2)) m.1)

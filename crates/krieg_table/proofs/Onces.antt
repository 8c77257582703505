-- No pair of a set and a number has two results.
use Rattle.std.proofs.Common.{◌≡◌, ℕ, zero, suc, ◌≤◌, ◌<◌, ◌⊎◌, inl, inr, List, [], ◌∷◌, ◌++◌, Option, Some, None, refl, sym, ap, subst, arith}
use Rattle.std.specs.Prelude.{IfSome}
use Rattle.std.proofs.lemmas.List.{map-append}
use Rattle.krieg_table.proofs.Common.{Pos, Move, In, IsOnce, PairOf, Entries, pairs, Win, Results, AreResults, Row, SetRows, sets, lost_entries, won_entries, row_entries, entries}
use Rattle.krieg_theory.proofs.Lists.{append_in}
use Rattle.krieg_costs.proofs.Onces.{once_append}

pairs_append : (xs ys : Entries Pos Move) → pairs (xs ++ ys) ≡ pairs xs ++ pairs ys
pairs_append xs ys = map-append (λ (e : PairOf Pos × Option Move). e.0) xs ys

module _ (B : List Pos) where
  -- losses are of the set, with numbers up to the greatest
  in_lost : (n : ℕ) (q : PairOf Pos) → In q (pairs (lost_entries B n)) → (B ≡ q.0) × (q.1 ≤ n)
  in_lost zero q i = absurd i
  in_lost (suc n) q (inl e) = (ap (λ (p : PairOf Pos). p.0) e, (let a = ap (λ (p : PairOf Pos). p.1) e in omega arith))
  in_lost (suc n) q (inr i) = let a = in_lost n q i in (a.0, omega arith)

  lost_once : (n : ℕ) → IsOnce (pairs (lost_entries B n))
  lost_once zero = tt
  lost_once (suc n) = (λ i. (let a = (in_lost n (B, suc n) i).1 in absurd (omega arith)), lost_once n)

  in_row : (rs : Results) (q : PairOf Pos) → In q (pairs (row_entries B rs)) → B ≡ q.0
  in_row rs q = go rs.won
    where
      go : (won : Option Win) → In q (pairs (won_entries B won ++ lost_entries B rs.lost)) → B ≡ q.0
      go None i = (in_lost rs.lost q i).0
      go (Some w) (inl e) = ap (λ (p : PairOf Pos). p.0) e
      go (Some w) (inr i) = (in_lost rs.lost q i).0

  row_once : (rs : Results) → AreResults rs → IsOnce (pairs (row_entries B rs))
  row_once rs = go rs.won
    where
      go : (won : Option Win) → IfSome won (λ w. rs.lost < w.moves) → IsOnce (pairs (won_entries B won ++ lost_entries B rs.lost))
      go None a = lost_once rs.lost
      go (Some w) a = (λ i. (let b = (in_lost rs.lost (B, w.moves) i).1 in absurd (omega arith)), lost_once rs.lost)

in_sets : (T : SetRows) (q : PairOf Pos) → In q (pairs (entries T)) → In q.0 (sets T)
unfolding entries
in_sets [] q i = absurd i
in_sets (r ∷ T) q i = there (in_sets T q) (append_in (pairs (row_entries r.0 r.1)) (pairs (entries T)) q (subst (In q) (pairs_append (row_entries r.0 r.1) (entries T)) i))
  where
    there : (In q (pairs (entries T)) → In q.0 (sets T)) → In q (pairs (row_entries r.0 r.1)) ⊎ In q (pairs (entries T)) → (r.0 ≡ q.0) ⊎ In q.0 (sets T)
    there ih (inl j) = inl (in_row r.0 r.1 q j)
    there ih (inr j) = inr (ih j)

-- since no set has two numbers
pub pairs_once : (T : SetRows) → IsOnce (sets T) → ((r : Row) → In r T → AreResults r.1) → IsOnce (pairs (entries T))
unfolding entries
pairs_once [] o a = tt
pairs_once (r ∷ T) o a =
    subst IsOnce (sym (pairs_append (row_entries r.0 r.1) (entries T)))
    (once_append (pairs (row_entries r.0 r.1)) (pairs (entries T)) (row_once r.0 r.1 (a r (inl refl))) (pairs_once T o.1 (λ s i. a s (inr i)))
    (λ q i j. o.0 (subst (λ (X : List Pos). In X (sets T)) (sym (in_row r.0 r.1 q i)) (in_sets T q j))))

-- Backing keeps its rules, is in each list that keeps them, and is reached; so the floor is at most what is fresh.
use Rattle.std.proofs.Common.{◌≡◌, ℕ, zero, suc, ◌+◌, ◌≤◌, ◌<◌, true, false, not, ◌⊎◌, List, [], flat_map, Option, Some, None, refl, sym, ap, subst, inl, inr, ◌∙◌, arith}
use Rattle.std.specs.Prelude.{IfSome}
use Rattle.std.specs.List.{list_any}
use Rattle.std.proofs.lemmas.Bool.{cases_Bool, cond-true, cond-false, both_ways, not-true, false_from_ne_true}
use Rattle.krieg_costs.proofs.Common.{In, Game, IsGame, refused, tries, class, can, begins, least, Outset, IsOutset, openings, opening_set, is_over, can_plan, Pair, total, once, made, price, first_made, reach_of, Block, Lives, Stale, LostClass, LostRefused, NoBlock, block, pair_of, lost, won, floor_price, first_lost, lost_opening, backing, floor, HasWon, IsBacking, BackingIsLeast, BackingIsReached, FloorIsAtMostFresh}
use Rattle.krieg_theory.proofs.Lists.{in_flat, flat_in}
use Rattle.krieg_theory.proofs.Least.{least_le, can_least}
use Rattle.krieg_theory.proofs.Planned.{can_plan_at}
use Rattle.krieg_costs.proofs.Totals.{total_up_to, total_within}
use Rattle.krieg_costs.proofs.Pairs.{once_in, in_once, once_is}
use Rattle.krieg_costs.proofs.Reached.{Inside, opening_some, reach_of_sinks, reach_is_least}
use Rattle.krieg_costs.proofs.Blocks.{BlockSays, block_says, found}
use Rattle.krieg_costs.proofs.LostSets.{HasBlocks, lost_root, lost_backs, lost_lost, lost_inside}
use Rattle.krieg_costs.proofs.WonSets.{IsFirstTry, first_is, won_root, IsSettled, won_settled, IsBacked, won_backed, won_inside, lost_is_backed}

module _ (G : Game) (L : IsGame G) (O : Outset G) (W : IsOutset G O) where
  -- the three cases of backing
  by_case : (n : ℕ) (S : List G.Position) (Q : List (Pair G) → Type 0) → Q []
      → (can_plan G O n S ≡ true → Q (flat_map (λ key. won G n (opening_set G O S key)) (openings G O S)))
      → ((key : O.Root) → list_any (is_over G O) S ≡ false → first_lost G O n S ≡ Some key → In key (openings G O S) → can G n (opening_set G O S key) ≡ false → Q (lost G n (opening_set G O S key)))
      → Q (backing G O n S)
  by_case n S Q none all one = go (cases_Bool (list_any (is_over G O) S)) (cases_Bool (can_plan G O n S))
    where
      last : list_any (is_over G O) S ≡ false → (o : Option O.Root) → first_lost G O n S ≡ o → Q (lost_opening G O n S o)
      last e None f = none
      last e (Some key) f =
          let a = found (λ key. not (can G n (opening_set G O S key))) (openings G O S) key f in
          one key e f a.0 (not-true _ a.1)

      go : (list_any (is_over G O) S ≡ true) ⊎ (list_any (is_over G O) S ≡ false) → (can_plan G O n S ≡ true) ⊎ (can_plan G O n S ≡ false) → Q (backing G O n S)
      go (inl e) c = subst Q (sym (cond-true (list_any (is_over G O) S) _ _ e)) none
      go (inr e) (inl c) = subst Q (sym (cond-false (list_any (is_over G O) S) _ _ e ∙ cond-true (can_plan G O n S) _ _ c)) (all c)
      go (inr e) (inr c) = subst Q (sym (cond-false (list_any (is_over G O) S) _ _ e ∙ cond-false (can_plan G O n S) _ _ c)) (last e (first_lost G O n S) refl)

  at_opening : (n : ℕ) (S : List G.Position) → can_plan G O n S ≡ true → (key : O.Root) → In key (openings G O S) → can G n (opening_set G O S key) ≡ true
  at_opening n S c key i = (can_plan_at G L O W S n c).1 key i

  -- each pair is lost, or at its least number
  backing_settled : (n : ℕ) (S : List G.Position) (q : Pair G) → In q (backing G O n S) → IsSettled G L q
  backing_settled n S = by_case n S (λ R. (q : Pair G) → In q R → IsSettled G L q) (λ q i. absurd i)
      (λ c q i. (let f = flat_in (λ key. won G n (opening_set G O S key)) (openings G O S) q i in won_settled G L n (opening_set G O S f.0) (at_opening n S c f.0 f.1) q f.2))
      (λ key e f k d q i. inl (lost_lost G L n (opening_set G O S key) d q i))

  -- and has the pairs that its rule asks for
  backing_backed : (n : ℕ) (S : List G.Position) (q : Pair G) → In q (backing G O n S) → IsBacked G L (backing G O n S) q.0 q.1
  backing_backed n S q i = by_case n S (λ R. Inside G L R (backing G O n S) → In q R → IsBacked G L (backing G O n S) q.0 q.1) (λ x k. absurd k)
      (λ c x k.
      let f = flat_in (λ key. won G n (opening_set G O S key)) (openings G O S) q k in
      won_backed G L n (opening_set G O S f.0) (backing G O n S) (at_opening n S c f.0 f.1) (λ y z. x y (in_flat (λ key. won G n (opening_set G O S key)) (openings G O S) f.0 y f.1 z)) q f.2)
      (λ key e f k d x y. lost_is_backed G L (lost G n (opening_set G O S key)) (backing G O n S) (lost_lost G L n (opening_set G O S key) d) (lost_backs G L n (opening_set G O S key) (backing G O n S) x) q y)
      (λ y z. z) i

  none_lost : (n : ℕ) (S : List G.Position) (key : O.Root) → can_plan G O n S ≡ true → first_lost G O n S ≡ Some key → ⊥
  none_lost n S key c f =
      let a = found (λ key. not (can G n (opening_set G O S key))) (openings G O S) key f in
      both_ways _ (not-true _ a.1) (at_opening n S c key a.0)

  backing_keeps : (n : ℕ) (S : List G.Position) → IsBacking G O n S (backing G O n S)
  backing_keeps n S = record {
    all_won = λ c key i. all_there (won G n (opening_set G O S key)) c (λ x y. in_flat (λ key. won G n (opening_set G O S key)) (openings G O S) key x i y) _ (won_root G L n (opening_set G O S key) (at_opening n S c key i));
    one_lost = λ e h. one_there e h (first_lost G O n S) refl;
    keeps_lost = λ B j i e. (backing_backed n S (B, j) i).as_lost e;
    keeps_won = λ B j m i e f. (backing_backed n S (B, suc j) i).as_won j m refl e f;
  }
    where
      all_there : (small : List (Pair G)) → can_plan G O n S ≡ true → Inside G L small (flat_map (λ key. won G n (opening_set G O S key)) (openings G O S)) → Inside G L small (backing G O n S)
      all_there small c f q i =
          let over = (can_plan_at G L O W S n c).0 in
          subst (In q) (sym (cond-false (list_any (is_over G O) S) _ _ over ∙ cond-true (can_plan G O n S) _ _ c)) (f q i)

      one_there : list_any (is_over G O) S ≡ false → 0 < n → (o : Option O.Root) → first_lost G O n S ≡ o → IfSome o (λ key. In (opening_set G O S key, n) (backing G O n S))
      one_there e h None f = tt
      one_there e h (Some key) f =
          let a = found (λ key. not (can G n (opening_set G O S key))) (openings G O S) key f in
          let c : can_plan G O n S ≡ false = false_from_ne_true _ (λ c. none_lost n S key c f) in
          let r : backing G O n S ≡ lost G n (opening_set G O S key) = cond-false (list_any (is_over G O) S) _ _ e ∙ cond-false (can_plan G O n S) _ _ c ∙ ap (lost_opening G O n S) f in
          subst (In (opening_set G O S key, n)) (sym r) (lost_root G L n (opening_set G O S key) (opening_some G L O W S key a.0) h)

  backing_inside : (n : ℕ) (S : List G.Position) (R : List (Pair G)) → IsBacking G O n S R → Inside G L (backing G O n S) R
  backing_inside n S R b = by_case n S (λ small. Inside G L small R) (λ q i. absurd i)
      (λ c q i. (let f = flat_in (λ key. won G n (opening_set G O S key)) (openings G O S) q i in won_inside G L n R b.keeps_lost b.keeps_won (opening_set G O S f.0) (at_opening n S c f.0 f.1) (b.all_won c f.0 f.1) q f.2))
      (λ key e f k d. from_lost n (opening_set G O S key) d (λ h. subst (λ o. IfSome o (λ key. In (opening_set G O S key, n) R)) f (b.one_lost e h)))
    where
      from_lost : (j : ℕ) (B : List G.Position) → can G j B ≡ false → (0 < j → In (B, j) R) → Inside G L (lost G j B) R
      from_lost zero B d h q i = absurd i
      from_lost (suc j) B d h q i = lost_inside G L (suc j) R b.keeps_lost B d (h (omega arith)) q i

  pub backing_is_least : BackingIsLeast G O
  backing_is_least n S = (backing_keeps n S, backing_inside n S)

  -- what is reached keeps the rules of backing
  least_some : (j : ℕ) (B : List G.Position) → can G j B ≡ true → 0 < least G j B
  least_some j B c = go (least G j B) (can_least G L j B c)
    where
      go : (i : ℕ) → can G i B ≡ true → 0 < i
      go zero e = absurd (both_ways false refl e)
      go (suc i) e = omega arith

  reach_keeps_block : (n : ℕ) (S : List G.Position) (B : List G.Position) (j : ℕ) → In (B, j) (reach_of G O n S) → HasBlocks G L (reach_of G O n S) B j
  reach_keeps_block n S B zero i t l = tt
  reach_keeps_block n S B (suc j) i t l = go (block G (suc j) B t) (block_says G L j B t)
    where
      go : (b : Block G.Key) → BlockSays G L j B t b → IfSome (pair_of G j B t b) (λ q. In q (reach_of G O n S))
      go Lives s = tt
      go Stale s = tt
      go (LostClass key) s = ((reach_is_least G L O W n S).0.leads B (suc j) i t l).classes key s.0 j s.2 (omega arith)
      go LostRefused s = ((reach_is_least G L O W n S).0.leads B (suc j) i t l).refused_part s.0 (suc j) (omega arith) (omega arith)
      go NoBlock s = tt

  reach_keeps : (n : ℕ) (S : List G.Position) → IsBacking G O n S (reach_of G O n S)
  reach_keeps n S = record {
    all_won = λ c key i. (reach_is_least G L O W n S).0.opened key i (least G n (opening_set G O S key)) (least_some n (opening_set G O S key) (at_opening n S c key i)) (least_le G n (opening_set G O S key));
    one_lost = λ e h. one_there h (first_lost G O n S) refl;
    keeps_lost = λ B j i e. reach_keeps_block n S B j i;
    keeps_won = λ B j m i e f. has B j m i (first_is G L j B m f);
  }
    where
      one_there : 0 < n → (o : Option O.Root) → first_lost G O n S ≡ o → IfSome o (λ key. In (opening_set G O S key, n) (reach_of G O n S))
      one_there h None f = tt
      one_there h (Some key) f = (reach_is_least G L O W n S).0.opened key (found (λ key. not (can G n (opening_set G O S key))) (openings G O S) key f).0 n h (omega arith)

      has : (B : List G.Position) (j : ℕ) (m : G.Move) → In (B, suc j) (reach_of G O n S) → IsFirstTry G L j B m → HasWon G (reach_of G O n S) B j m
      has B j m i f = record {
        below = λ h. reach_of_sinks G L O W n S B j i h;
        classes = λ key k.
            let C = class G B m key in
            let a = least_le G j C in
            ((reach_is_least G L O W n S).0.leads B (suc j) i m f.legal).classes key k (least G j C) (least_some j C (f.class_won key k)) (omega arith);
        refused_part = λ e.
            let C = refused G B m in
            ((reach_is_least G L O W n S).0.leads B (suc j) i m f.legal).refused_part e (least G (suc j) C) (least_some (suc j) C (f.refused_won e)) (least_le G (suc j) C);
        earlier = λ t l b. reach_keeps_block n S B (suc j) i t l;
      }

  pub backing_is_reached : BackingIsReached G O
  backing_is_reached n S q i = (backing_settled n S q i, backing_inside n S (reach_of G O n S) (reach_keeps n S) q i)

  -- a list without repeats that keeps the rules costs at least the floor
  pub floor_within : (n : ℕ) (S : List G.Position) (R : List (Pair G)) → IsBacking G O n S R → floor G O n S ≤ first_made G O S + total (floor_price G) R
  floor_within n S R b =
      let a = total_within (floor_price G) (floor_price G) (once G (backing G O n S)) R (once_is G L (backing G O n S)) (λ q i. backing_inside n S R b q (once_in G L (backing G O n S) q i)) (λ q. omega arith) in
      omega arith

  pub floor_is_at_most_fresh : FloorIsAtMostFresh G O
  floor_is_at_most_fresh n S =
      let a = total_within (floor_price G) (λ q. price G q.0) (once G (backing G O n S)) (once G (reach_of G O n S)) (once_is G L (backing G O n S)) (λ q i. in_once G L (reach_of G O n S) q ((backing_is_reached n S q (once_in G L (backing G O n S) q i)).1)) (λ q. total_up_to (made G q.0) (begins G q.1 q.0) (tries G q.0)) in
      omega arith

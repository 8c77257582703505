-- Stored pairs, and what right results say.
use Rattle.std.proofs.Common.{Bool, ◌≡◌, ℕ, zero, suc, ◌≤◌, ◌<◌, true, false, ◌⊎◌, List, [], ◌∷◌, Option, Some, None, is_some, refl, sym, ap, subst, inl, inr, ◌∙◌, arith, eq-or-lt_of_le}
use Rattle.std.proofs.lemmas.Bool.{cases_Bool, cond-true, cond-false, both_ways}
use Rattle.krieg_accounts.proofs.Common.{In, is_nil, Game, IsGame, can, least, Pair, same_pair, pairs, PartCan, ResultIsCan, WonIsLeast, Table, known, StoredWon, IsSound}
use Rattle.krieg_theory.proofs.Lists.{nil_or_member}
use Rattle.krieg_theory.proofs.Steps.{Member}
use Rattle.krieg_theory.proofs.Shown.{node_shows}
use Rattle.krieg_theory.proofs.Built.{canon_wins}
use Rattle.krieg_theory.proofs.First.{first_can}
use Rattle.krieg_theory.proofs.Least.{can_least, least_least}
use Rattle.krieg_costs.proofs.Pairs.{same_pair_eq, same_pair_refl}

module _ (G : Game) (L : IsGame G) where
  -- what wins a set wins its parts
  pub part_can : PartCan G
  part_can A B j e h c = go (nil_or_member A)
    where
      go : (is_nil A ≡ true) ⊎ Member A → can G j A ≡ true
      go (inl n) = absurd (both_ways _ e n)
      go (inr m) = let w = canon_wins G L j B c in node_shows G L w.0 A j m (λ p i. w.2 p (h p i))

  -- what is stored is one of the pairs
  pub known_in : (T : Table G) (q : Pair G) (x : Option G.Move) → known G T q ≡ Some x → In q (pairs T)
  known_in [] q x h = absurd (let k : ◌≡◌ {A = Option (Option G.Move)} None (Some x) = h in cc)
  known_in (e ∷ T) q x h = go (cases_Bool (same_pair G e.0 q)) (known_in T q x)
    where
      go : (same_pair G e.0 q ≡ true) ⊎ (same_pair G e.0 q ≡ false) → (known G T q ≡ Some x → In q (pairs T)) → (e.0 ≡ q) ⊎ In q (pairs T)
      go (inl s) r = inl (same_pair_eq G L e.0 q s)
      go (inr s) r = inr (r (sym (cond-false (same_pair G e.0 q) (Some e.1) (known G T q) s) ∙ h))

  -- and each of them is stored
  pub in_known : (T : Table G) (q : Pair G) → In q (pairs T) → (x : Option G.Move) × (known G T q ≡ Some x)
  in_known [] q i = absurd i
  in_known (e ∷ T) q i = go (cases_Bool (same_pair G e.0 q)) i (in_known T q)
    where
      go : (same_pair G e.0 q ≡ true) ⊎ (same_pair G e.0 q ≡ false) → (e.0 ≡ q) ⊎ In q (pairs T) → (In q (pairs T) → (x : Option G.Move) × (known G T q ≡ Some x)) → (x : Option G.Move) × (known G (e ∷ T) q ≡ Some x)
      go (inl s) k r = (e.1, cond-true (same_pair G e.0 q) (Some e.1) (known G T q) s)
      go (inr s) (inl k) r = absurd (both_ways _ s (subst (λ p. same_pair G p q ≡ true) (sym k) (same_pair_refl G L q)))
      go (inr s) (inr k) r = let a = r k in (a.0, cond-false (same_pair G e.0 q) (Some e.1) (known G T q) s ∙ a.1)

  -- a stored result says whether the set can be won
  pub result_can : (cut : Bool) → (T : Table G) → IsSound G cut T → (B : List G.Position) (j : ℕ) (o : Option G.Move) → known G T (B, j) ≡ Some o → can G j B ≡ is_some o
  result_can cut T s B j o h = sym (first_can G L j B) ∙ ap is_some (sym (s.right B j o h))

  -- a set that is stored as won is so at its least number
  pub wins_least : (cut : Bool) → (T : Table G) → IsSound G cut T → (k : ℕ) (X : List G.Position) (w : StoredWon G T X) → can G k X ≡ true → least G k X ≡ w.0
  wins_least cut T s k X w c = go (eq-or-lt_of_le at_most)
    where
      here : can G w.0 X ≡ true
      here = result_can cut T s X w.0 (Some w.1) w.2

      at_most : least G k X ≤ w.0
      at_most = least_least G L k w.0 X here

      some : (i : ℕ) → can G i X ≡ true → 0 < i
      some zero e = absurd (both_ways false refl e)
      some (suc i) e = omega arith

      go : (least G k X ≡ w.0) ⊎ (least G k X < w.0) → least G k X ≡ w.0
      go (inl e) = e
      go (inr l) =
          let won = can_least G L k X c in
          let b = s.backed X w.0 (Some w.1) w.2 in
          let lost = result_can cut T s X (least G k X) None (b.below (least G k X) (some (least G k X) won) l) in
          absurd (both_ways _ lost won)

  pub result_is_can : ResultIsCan G
  result_is_can cut T B j o s h = result_can cut T s B j o h

  pub won_is_least : WonIsLeast G
  won_is_least cut T B j m s h = wins_least cut T s j B (j, m, h) (result_can cut T s B j (Some m) h)

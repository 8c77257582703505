-- A whole search: from the empty table to one that has the answer.
use Rattle.std.proofs.Common.{◌≡◌, ℕ, ◌+◌, ◌≤◌, ◌<◌, Bool, true, false, not, ◌⊎◌, List, [], ◌∷◌, Option, Some, None, refl, sym, ap, subst, inl, inr, arith}
use Rattle.std.specs.Prelude.{IfSome, option_map}
use Rattle.std.specs.List.{list_any}
use Rattle.std.proofs.lemmas.Bool.{and_parts, cases_Bool}
use Rattle.krieg_accounts.proofs.Common.{In, Game, IsGame, can, Outset, IsOutset, openings, opening_set, is_over, can_plan, Pair, total, once, price, reach_of, first_lost, StoredLost, IsSound, all_owed, CoversSets, opening_sets, SetsAnswerPlan, FloorIsTaken, FreshIsEnough, ShortIsBelowFresh}
use Rattle.krieg_theory.proofs.Lists.{in_map, map_in}
use Rattle.krieg_costs.proofs.Reached.{fresh_is_reach}
use Rattle.krieg_accounts.proofs.Floors.{floor_is_charged}
use Rattle.krieg_accounts.proofs.TryEnds.{find_map, none_fails}

module _ (G : Game) where
  -- nothing is stored in the empty table, so it is sound
  pub empty_sound : (cut : Bool) → IsSound G cut []
  empty_sound cut = record {
    right = λ B j o h. absurd (let q : ◌≡◌ {A = Option (Option G.Move)} None (Some o) = h in cc);
    backed = λ B j o h. absurd (let q : ◌≡◌ {A = Option (Option G.Move)} None (Some o) = h in cc);
  }

  -- and all is owed
  pub owed_empty : (R : List (Pair G)) → all_owed G R [] ≡ total (λ q. price G q.0) R
  owed_empty [] = refl
  owed_empty (q ∷ R) = ap (λ n. price G q.0 + n) (owed_empty R)

module _ (G : Game) (L : IsGame G) (O : Outset G) (W : IsOutset G O) where
  -- what is reached, each pair once, covers the opening sets
  pub reach_covers : (n : ℕ) (S : List G.Position) → CoversSets G (opening_sets G O S) n (once G (reach_of G O n S))
  reach_covers n S =
      let h = fresh_is_reach G L O W n S in
      (h.leads, λ C m i a b. there C i a b (map_in (opening_set G O S) (openings G O S) C m))
    where
      there : (C : List G.Position) (i : ℕ) → 0 < i → i ≤ n → (key : O.Root) × In key (openings G O S) × (opening_set G O S key ≡ C) → In (C, i) (once G (reach_of G O n S))
      there C i a b k = subst (λ (X : List G.Position). In (X, i) (once G (reach_of G O n S))) k.2 ((fresh_is_reach G L O W n S).opened k.0 k.1 i a b)

  pub fresh_is_enough : FreshIsEnough G O
  fresh_is_enough cut n S T had has w =
      let a = w.paid (once G (reach_of G O n S)) (reach_covers n S) in
      let b = owed_empty G (once G (reach_of G O n S)) in
      omega arith

  pub short_is_below_fresh : ShortIsBelowFresh G O
  short_is_below_fresh n S had v =
      let a = v (once G (reach_of G O n S)) (reach_covers n S) in
      let b = owed_empty G (once G (reach_of G O n S)) in
      omega arith

  pub floor_is_taken : FloorIsTaken G O
  floor_is_taken n S T had has w a =
      let f = floor_is_charged G L O W n S T w.sound a in
      let x = w.exact refl in
      omega arith

  pub sets_answer_plan : SetsAnswerPlan G O
  sets_answer_plan n S T over a = record {
    all_won = λ c key i. a.won c (opening_set G O S key) (in_map (opening_set G O S) (openings G O S) key i);
    one_lost = λ o h. lost h (cases_Bool (can_plan G O n S));
  }
    where
      wins : O.Root → Bool
      wins key = can G n (opening_set G O S key)

      there : (r : Option O.Root) → 0 < n → IfSome (option_map (opening_set G O S) r) (λ C. 0 < n → StoredLost G T (C, n)) → IfSome r (λ key. StoredLost G T (opening_set G O S key, n))
      there None h k = tt
      there (Some key) h k = k h

      lost : 0 < n → (can_plan G O n S ≡ true) ⊎ (can_plan G O n S ≡ false) → IfSome (first_lost G O n S) (λ key. StoredLost G T (opening_set G O S key, n))
      lost h (inl c) =
          let none = none_fails (λ key. can G n (opening_set G O S key)) (openings G O S) (and_parts (not (list_any (is_over G O) S)) _ c).1 in
          subst (λ r. IfSome r (λ key. StoredLost G T (opening_set G O S key, n))) (sym none) tt
      lost h (inr c) =
          there (first_lost G O n S) h
          (subst (λ r. IfSome r (λ C. 0 < n → StoredLost G T (C, n))) (find_map (λ C. not (can G n C)) (opening_set G O S) (openings G O S)) (a.lost c))

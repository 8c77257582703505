-- Some sets, one after another: what holds once some of them were won, and what it is worth at the end.
use Rattle.std.proofs.Common.{◌≡◌, ℕ, suc, ◌+◌, ◌≤◌, ◌<◌, true, false, not, ◌⊎◌, inl, inr, List, [], length, take, get_or, refl, sym, ap, subst, ◌∙◌, arith}
use Rattle.std.specs.Prelude.{IfSome}
use Rattle.std.specs.List.{list_all}
use Rattle.std.proofs.lemmas.Bool.{both_ways, false_from_ne_true, not_from_true, not_from_false}
use Rattle.krieg_accounts.proofs.Common.{In, Game, can, Table, StoredLost, StoredWon, AnswersSet, AnswersSets}
use Rattle.krieg_theory.proofs.Lists.{all_at, all_from}
use Rattle.krieg_accounts.proofs.Stretches.{Kept, wins_kept}
use Rattle.krieg_accounts.proofs.TryOrder.{find_here, take_more, in_all}

module _ (G : Game) where
  -- the first k of the sets can be won, and are stored so
  abbrev pub WonTo : Table G → List (List G.Position) → ℕ → ℕ → Type 0
  WonTo T Cs j k = (C : List G.Position) → In C (take k Cs) → (can G j C ≡ true) × StoredWon G T C

  pub one_fails : (Cs : List (List G.Position)) (C : List G.Position) (j : ℕ) → In C Cs → can G j C ≡ false → list_all (can G j) Cs ≡ false
  one_fails Cs C j i e = false_from_ne_true _ (λ h. both_ways _ e (all_at (can G j) Cs h C i))

  -- the next one cannot be won
  pub lost_here : (T T' : Table G) (Cs : List (List G.Position)) (X : List G.Position) (j k : ℕ) → k < length Cs → get_or Cs k [] ≡ X → WonTo T Cs j k → can G j X ≡ false → AnswersSet G T' X j false → AnswersSets G T' Cs j false
  lost_here T T' Cs X j k l e w c s = record {
    won = λ f. absurd (both_ways false refl f);
    lost = λ f.
        let h = find_here (λ C. not (can G j C)) Cs k [] l (λ C i. not_from_true _ (w C i).0) (not_from_false _ (ap (can G j) e ∙ c)) in
        subst (λ o. IfSome o (λ C. 0 < j → StoredLost G T' (C, j))) (sym h) (subst (λ (C : List G.Position). 0 < j → StoredLost G T' (C, j)) (sym e) (s.lost refl));
  }

  -- the next one is won too
  pub won_more : (T T' : Table G) (Cs : List (List G.Position)) (X : List G.Position) (j k : ℕ) → k < length Cs → get_or Cs k [] ≡ X → WonTo T Cs j k → Kept G T T' → can G j X ≡ true → StoredWon G T' X → WonTo T' Cs j (k + 1)
  won_more T T' Cs X j k l e w kept c s C i = go (take_more Cs k [] C l (subst (λ (n : ℕ). In C (take n Cs)) (let m : k + 1 ≡ suc k = omega arith in m) i))
    where
      go : In C (take k Cs) ⊎ (get_or Cs k [] ≡ C) → (can G j C ≡ true) × StoredWon G T' C
      go (inl a) = ((w C a).0, wins_kept G T T' C kept (w C a).1)
      go (inr a) = let f : X ≡ C = sym e ∙ a in (subst (λ (Y : List G.Position). can G j Y ≡ true) f c, subst (λ (Y : List G.Position). StoredWon G T' Y) f s)

  -- none is left
  pub all_can : (T : Table G) (Cs : List (List G.Position)) (j k : ℕ) → length Cs ≤ k → WonTo T Cs j k → list_all (can G j) Cs ≡ true
  all_can T Cs j k l w = all_from (can G j) Cs (λ C i. (w C (in_all Cs k C l i)).0)

  pub all_won : (T : Table G) (Cs : List (List G.Position)) (j k : ℕ) → length Cs ≤ k → WonTo T Cs j k → AnswersSets G T Cs j true
  all_won T Cs j k l w = record {
    won = λ f C i. (w C (in_all Cs k C l i)).1;
    lost = λ f. absurd (both_ways true f refl);
  }

-- From what the set needs to the answer.
use Rattle.std.proofs.Common.{◌≡◌, ℕ, ◌+◌, ◌-◌, ◌≤◌, Bool, true, false, not, ◌&&◌, cond, List, [], ◌∷◌, refl, sym, ap, ◌∙◌, subst, arith, Option, Some, None}
use Rattle.std.specs.Prelude.{nat_le}
use Rattle.std.specs.List.{list_all}
use Rattle.std.proofs.lemmas.Bool.{leb-true, leb-false, le-leb, both_ways}
use Rattle.krieg_board.proofs.SameTests.{same_tests}
use Rattle.krieg_pack.proofs.PositionSets.{in_set, set_in}
use Rattle.krieg_theory.proofs.Lists.{all_at, all_from}
use Rattle.krieg_game.proofs.ChessLaws.{chess_is_game}
use Rattle.krieg_plan.proofs.WonRoots.{root_wins}
use Rattle.krieg_strategy.proofs.Unfolding.{root_tree, trees_length}
use Rattle.krieg_judge.proofs.Common.{Pos, is_over, mates, IsWorst, wins_other, wins_root, chess, outset, starts, RootKey, root_lt, total, set_of, within, led_to, trees_of, first_to, plan_in, MOST_WORST, link_held, pair_cost, reached, first_cost, judge_cost, root_links, start_cost, starts_held, Strategy, IsJudgement, judged, Mates, Fails}
use Rattle.krieg_judge.proofs.Taken.{same_total}

all_same : {X : Type 0} (f g : X → Bool) (xs : List X) → ((x : X) → f x ≡ g x) → list_all f xs ≡ list_all g xs
all_same f g [] h = refl
all_same f g (x ∷ xs) h = ap (λ b. b && list_all f xs) (h x) ∙ ap (λ b. g x && b) (all_same f g xs h)

module _ (s : Strategy) where
  abbrev test : ℕ → Bool
  test k = mates (chess s.dialect) (outset s.dialect s.side) (plan_in s) s.list.items k

  -- what comes first is won by the plan where it is at the numbers of its roots
  link_wins : (k : ℕ) (o : RootKey × Pos) → link_held s.dialect root_lt (root_links s) 0 (trees_of s.nodes) k o ≡ wins_root (chess s.dialect) (outset s.dialect s.side) (plan_in s) o.0 o.1 k
  link_wins k o =
      let whole : k - 0 ≡ k = omega arith in
      ap (λ j. wins_other (chess s.dialect) (led_to (trees_of s.nodes) (first_to root_lt (root_links s) o.0)) o.1 j) whole
      ∙ ap (λ m. wins_other (chess s.dialect) m o.1 k) (sym (root_tree root_lt (trees_of s.nodes) (root_links s) (λ r i. (let b = s.well_formed.roots_below r i in omega (arith, b, trees_length s.nodes))) o.0))
      ∙ sym (root_wins s.dialect s.side (plan_in s) o.0 o.1 k)

  -- the test of the set is that of the list
  set_mates : (k : ℕ) → list_all (starts_held s (trees_of s.nodes) k) (set_of s.list.items) ≡ test k
  set_mates k =
      let f = λ (p : Pos). starts_held s (trees_of s.nodes) k p in
      same_tests _ _ (λ h. all_from f s.list.items (λ p i. all_at f (set_of s.list.items) h p (in_set p s.list.items i))) (λ h. all_from f (set_of s.list.items) (λ p i. all_at f s.list.items h p (set_in p s.list.items i)))
      ∙ all_same f _ s.list.items (λ p. ap (λ b. not (is_over (chess s.dialect) (outset s.dialect s.side) p) && b) (all_same _ _ (starts s.dialect s.side p) (link_wins k)))

  first_same : (S : List Pos) → total (start_cost s) (set_of S) ≡ first_cost (chess s.dialect) (outset s.dialect s.side) S
  unfolding set_of
  first_same S = refl

  -- what the set takes is what the strategy does
  pub set_costs : total (start_cost s) (set_of s.list.items) + total (pair_cost (chess s.dialect) (outset s.dialect s.side) s.nodes (root_links s)) (reached (chess s.dialect) (outset s.dialect s.side) s.nodes (root_links s) (set_of s.list.items)) ≡
      judge_cost (chess s.dialect) (outset s.dialect s.side) s.nodes (root_links s) s.list.items
  set_costs =
      let a = first_same s.list.items in
      let b = same_total (chess s.dialect) (chess_is_game s.dialect) (outset s.dialect s.side) s.nodes (root_links s) s.well_formed.below s.well_formed.roots_below (set_of s.list.items) s.list.items (λ p i. set_in p s.list.items i) (λ p i. in_set p s.list.items i) in
      omega (arith, a, b)

  abbrev Worst : ℕ → Type 0
  Worst w = IsWorst (chess s.dialect) (outset s.dialect s.side) (plan_in s) s.list.items w

  -- nothing is enough
  none_found : ((k : ℕ) → k ≤ MOST_WORST → false ≡ test k) → IsJudgement s Fails
  none_found h = record {
    mates_in = λ w. ((λ e. absurd cc), (λ x. absurd (both_ways (test w) (sym (h w (omega (arith, x.1, s.well_formed.most_worst)))) x.0.mates_within)));
    fails = ((λ e. sym (h s.worst s.well_formed.most_worst)), (λ e. refl));
  }

  -- more is needed than the strategy claims
  more_found : (v : ℕ) → nat_le v s.worst ≡ false → ((k : ℕ) → k ≤ MOST_WORST → nat_le v k ≡ test k) → IsJudgement s Fails
  more_found v more h = record {
    mates_in = λ w. ((λ e. absurd cc), (λ x. absurd (no w x)));
    fails = ((λ e. sym (h s.worst s.well_formed.most_worst) ∙ more), (λ e. refl));
  }
    where
      no : (w : ℕ) → Worst w × (w ≤ s.worst) → ⊥
      no w x =
          let a = leb-true v w (h w (omega (arith, x.1, s.well_formed.most_worst)) ∙ x.0.mates_within) in
          let b = leb-false v s.worst more in
          absurd (omega (arith, a, b, x.1))

  -- so much is enough
  enough_found : (v : ℕ) → nat_le v s.worst ≡ true → ((k : ℕ) → k ≤ MOST_WORST → nat_le v k ≡ test k) → IsJudgement s (Mates v)
  enough_found v enough h = record {
    mates_in = λ w. (is_worst w, is_that w);
    fails = ((λ e. absurd cc), (λ e. absurd (both_ways (test s.worst) e (sym (h s.worst s.well_formed.most_worst) ∙ enough))));
  }
    where
      claimed : v ≤ s.worst
      claimed = leb-true v s.worst enough

      least : (i : ℕ) → test i ≡ true → v ≤ i
      least i m = go (nat_le v i) refl
        where
          go : (b : Bool) → nat_le v i ≡ b → v ≤ i
          go true e = leb-true v i e
          go false e = let below = leb-false v i e in absurd (both_ways (test i) (sym (h i (omega (arith, below, claimed, s.well_formed.most_worst))) ∙ e) m)

      worst_v : Worst v
      worst_v = record { mates_within = sym (h v (omega (arith, claimed, s.well_formed.most_worst))) ∙ le-leb v v (omega arith); least = least }

      is_worst : (w : ℕ) → Mates v ≡ Mates w → Worst w × (w ≤ s.worst)
      is_worst w e = let same : v ≡ w = cc in (subst Worst same worst_v, subst (λ k. k ≤ s.worst) same claimed)

      is_that : (w : ℕ) → Worst w × (w ≤ s.worst) → Mates v ≡ Mates w
      is_that w x =
          let a = worst_v.least w x.0.mates_within in
          let b = x.0.least v worst_v.mates_within in
          let same : v ≡ w = omega (arith, a, b) in
          ap (λ (k : ℕ). Mates k) same

  -- the answer by what the set needs
  pub is_judged : (need : Option ℕ) → ((k : ℕ) → k ≤ MOST_WORST → within need k ≡ list_all (starts_held s (trees_of s.nodes) k) (set_of s.list.items)) → IsJudgement s (judged s.worst need)
  is_judged None h = none_found (λ k small. h k small ∙ set_mates k)
  is_judged (Some v) h = go (nat_le v s.worst) refl
    where
      go : (b : Bool) → nat_le v s.worst ≡ b → IsJudgement s (cond b (Mates v) Fails)
      go true e = enough_found v e (λ k small. h k small ∙ set_mates k)
      go false e = more_found v e (λ k small. h k small ∙ set_mates k)

-- From the roots to the verdict.
use Rattle.std.proofs.Common.{◌≡◌, ℕ, ◌+◌, ◌≤◌, Bool, true, false, not, ◌&&◌, cond, List, ◌∷◌, map, Option, None, refl, sym, ap, ◌∙◌, arith}
use Rattle.std.specs.List.{list_all, list_any}
use Rattle.std.proofs.Math.Bool.{and_assoc}
use Rattle.krieg_checker.proofs.Common.{Pos, Side, Dialect, set_of, position_lt, as_set, Nothing, is_over, openings, opening_set, wins_root, mates, total, RootKey, chess, outset, class_pair, PlanTrees, first_root_in, first_cost, check_cost, other_cost, within, Tells, worse, all_won_other, heard_of, roots_won, roots_cost, IsFirstTurn, FirstTurn, MOST_COUNTED}
use Rattle.krieg_pack.proofs.PositionSets.{position_order, set_of_set}
use Rattle.krieg_costs.proofs.Totals.{total_agree}
use Rattle.krieg_game.proofs.KeyLaws.{root_order}
use Rattle.krieg_plan.proofs.WonRoots.{root_wins}
use Rattle.krieg_checker.proofs.NodeTells.{worse_within}
use Rattle.krieg_checker.proofs.Sets.{all_map, total_map, all_agree}
use Rattle.krieg_checker.proofs.PlanTells.{mates_parted}
use Rattle.krieg_checker.proofs.ReachedCosts.{plan_costs}
use Rattle.krieg_checker.proofs.ListedSets.{same_openings, same_opening_set, same_mates}

-- a root more
pub root_more : (d : Dialect) (plan : PlanTrees) (c : RootKey × List Pos) (cs : List (RootKey × List Pos)) (need r : Option ℕ) (all : ℕ → Bool) → ((k : ℕ) → k ≤ MOST_COUNTED → within need k && roots_won d plan (c ∷ cs) k ≡ all k) →
    Tells r (all_won_other (chess d) (first_root_in plan c.0) c.1) → (k : ℕ) → k ≤ MOST_COUNTED → within (worse need r) k && roots_won d plan cs k ≡ all k
root_more d plan c cs need r all so h k small =
    ap (λ b. b && roots_won d plan cs k) (worse_within need r k) ∙ and_assoc (within need k) (within r k) (roots_won d plan cs k)
    ∙ ap (λ b. within need k && (b && roots_won d plan cs k)) (sym (h k small)) ∙ so k small

-- where no root has the key
pub no_root : (d : Dialect) (plan : PlanTrees) (key : RootKey) (B : List Pos) (r : Option ℕ) (units : ℕ) → first_root_in plan key ≡ Nothing → Tells r (λ k. list_all (λ p. false) B) →
    Tells r (all_won_other (chess d) (first_root_in plan key) B) × (units + other_cost (chess d) (first_root_in plan key) B ≡ units)
no_root d plan key B r units none h = (λ k small. ap (λ o. all_won_other (chess d) o B k) none ∙ h k small, omega (arith, ap (λ o. other_cost (chess d) o B) none))

module _ (d : Dialect) (who : Side) (plan : PlanTrees) where
  first_same : (S : List Pos) → first_cost (chess d) (outset d who) (set_of S) ≡ first_cost (chess d) (outset d who) S
  unfolding set_of
  first_same S = ap (total _) (set_of_set S)

  -- that of the start is a part of that of the check
  pub start_cost : (S : List Pos) → first_cost (chess d) (outset d who) (set_of S) ≤ check_cost (chess d) (outset d who) plan S
  start_cost S = omega (arith, first_same S)

  module _ (S : List Pos) (r : FirstTurn) (st : IsFirstTurn d who (set_of S) r) where
    abbrev B : List Pos
    B = as_set position_lt S

    abbrev cs : List (RootKey × List Pos)
    cs = map (heard_of r.own) (map class_pair r.classes.items)

    sets_are : cs ≡ map (λ key. (key, opening_set (chess d) (outset d who) B key)) (openings (chess d) (outset d who) B)
    unfolding set_of
    sets_are = st.classes_part

    won : (k : ℕ) → roots_won d plan cs k ≡ list_all (λ key. list_all (λ p. wins_root (chess d) (outset d who) plan key p k) (opening_set (chess d) (outset d who) B key)) (openings (chess d) (outset d who) B)
    won k =
        ap (λ xs. roots_won d plan xs k) sets_are
        ∙ all_map (λ (c : RootKey × List Pos). all_won_other (chess d) (first_root_in plan c.0) c.1 k) (λ key. (key, opening_set (chess d) (outset d who) B key)) (openings (chess d) (outset d who) B)
        ∙ all_agree _ _ (openings (chess d) (outset d who) B) (λ key. all_agree _ _ (opening_set (chess d) (outset d who) B key) (λ p. sym (root_wins d who plan key p k)))

    over_is : r.over ≡ list_any (is_over (chess d) (outset d who)) B
    unfolding set_of
    over_is = st.over_part

    plan_mates : (k : ℕ) → mates (chess d) (outset d who) plan S k ≡ (not r.over && roots_won d plan cs k)
    plan_mates k =
        sym (same_mates (chess d) (outset d who) root_order position_order S plan k)
        ∙ mates_parted (chess d) (outset d who) root_order position_order plan B k
        ∙ ap (λ b. not b && list_all (λ key. list_all (λ p. wins_root (chess d) (outset d who) plan key p k) (opening_set (chess d) (outset d who) B key)) (openings (chess d) (outset d who) B)) (sym over_is)
        ∙ ap (λ b. not r.over && b) (sym (won k))

    -- what was found tells of the plan, and nothing is enough where a position is over
    pub plan_tells : (need : Option ℕ) → Tells need (roots_won d plan cs) → Tells (cond r.over None need) (mates (chess d) (outset d who) plan S)
    plan_tells need h k small = plan_mates k ∙ ap (λ b. not r.over && b) (h k small) ∙ go r.over
      where
        go : (o : Bool) → (not o && within need k) ≡ within (cond o None need) k
        go true = refl
        go false = refl

    -- the cost of the check is that of the start and of the roots
    pub plan_cost : check_cost (chess d) (outset d who) plan S ≡ first_cost (chess d) (outset d who) (set_of S) + roots_cost d plan cs
    plan_cost =
        let costs = λ (xs : List Pos) (key : RootKey). other_cost (chess d) (first_root_in plan key) (opening_set (chess d) (outset d who) xs key) in
        let a = plan_costs (chess d) (outset d who) plan S in
        let b = ap (total (costs S)) (same_openings (chess d) (outset d who) root_order position_order S) in
        let c = total_agree (costs B) (costs S) (openings (chess d) (outset d who) B) (λ key i. ap (other_cost (chess d) (first_root_in plan key)) (same_opening_set (chess d) (outset d who) root_order position_order S key)) in
        let f = ap (roots_cost d plan) sets_are ∙ total_map (λ (c : RootKey × List Pos). other_cost (chess d) (first_root_in plan c.0) c.1) (λ key. (key, opening_set (chess d) (outset d who) B key)) (openings (chess d) (outset d who) B) in
        omega (arith, a, b, c, f, first_same S)

-- The verdict by the number that was found.
use Rattle.std.proofs.Common.{◌≡◌, ℕ, ◌≤◌, Bool, true, false, cond, Option, Some, None, refl, sym, ap, subst, ◌∙◌, arith}
use Rattle.std.specs.Prelude.{nat_le}
use Rattle.std.proofs.lemmas.Bool.{leb-true, leb-false, both_ways}
use Rattle.krieg_checker.proofs.Common.{mates, IsWorst, chess, outset, plan_of, PlanFile, Tells, IsVerdict, verdict, Mates, Fails, MOST_COUNTED}
use Rattle.krieg_checker.proofs.PlanTells.{worst_is}

module _ (f : PlanFile) (small : f.worst ≤ MOST_COUNTED) where
  -- the plan mates within so many moves
  abbrev pub test : ℕ → Bool
  test k = mates (chess f.dialect) (outset f.dialect f.side) (plan_of f.plan) f.list.items k

  -- that is its worst case
  abbrev pub Worst : ℕ → Type 0
  Worst w = IsWorst (chess f.dialect) (outset f.dialect f.side) (plan_of f.plan) f.list.items w

  -- nothing is enough
  none_found : Tells None test → IsVerdict f Fails
  none_found h = record {
    mates_in = λ w. ((λ e. absurd cc), (λ x. absurd (both_ways (test w) (h w (omega (arith, x.1, small))) x.0.mates_within)));
    fails = ((λ e. h f.worst small), (λ e. refl));
  }

  -- so many moves are, and the file claims fewer
  more_found : (v : ℕ) → nat_le v f.worst ≡ false → Tells (Some v) test → IsVerdict f Fails
  more_found v more h = record {
    mates_in = λ w. ((λ e. absurd cc), (λ x. absurd (no w x)));
    fails = ((λ e. h f.worst small ∙ more), (λ e. refl));
  }
    where
      no : (w : ℕ) → Worst w × (w ≤ f.worst) → ⊥
      no w x =
          let a = leb-true v w (sym (h w (omega (arith, x.1, small))) ∙ x.0.mates_within) in
          let b = leb-false v f.worst more in
          omega (arith, a, b, x.1)

  -- so many are, within what the file claims
  enough_found : (v : ℕ) → nat_le v f.worst ≡ true → Tells (Some v) test → IsVerdict f (Mates v)
  enough_found v enough h = record {
    mates_in = λ w. (is_worst w, is_that w);
    fails = ((λ e. absurd cc), (λ e. absurd (both_ways (test f.worst) e (h f.worst small ∙ enough))));
  }
    where
      within_claim : v ≤ f.worst
      within_claim = leb-true v f.worst enough

      worst_v : Worst v
      worst_v = worst_is (chess f.dialect) (outset f.dialect f.side) (plan_of f.plan) f.list.items v (omega (arith, within_claim, small)) h

      is_worst : (w : ℕ) → Mates v ≡ Mates w → Worst w × (w ≤ f.worst)
      is_worst w e = let same : v ≡ w = cc in (subst Worst same worst_v, subst (λ k. k ≤ f.worst) same within_claim)

      is_that : (w : ℕ) → Worst w × (w ≤ f.worst) → Mates v ≡ Mates w
      is_that w x =
          let a = worst_v.least w x.0.mates_within in
          let b = x.0.least v worst_v.mates_within in
          let same : v ≡ w = omega (arith, a, b) in
          ap (λ (k : ℕ). Mates k) same

  pub is_verdict : (over : Bool) (need : Option ℕ) → Tells (cond over None need) test → IsVerdict f (verdict f.worst over need)
  is_verdict true need h = none_found h
  is_verdict false None h = none_found h
  is_verdict false (Some v) h = go (nat_le v f.worst) refl
    where
      go : (b : Bool) → nat_le v f.worst ≡ b → IsVerdict f (cond b (Mates v) Fails)
      go true e = enough_found v e h
      go false e = more_found v e h

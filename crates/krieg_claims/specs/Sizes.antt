-- How large claims are.
use Rattle.std.specs.Prelude.{ℕ, ◌≤◌, ◌<◌, List, length, ◌⊎◌}
use Rattle.krieg_theory.specs.Game.{Game}
use Rattle.krieg_costs.specs.Sums.{total}
use Rattle.krieg_costs.specs.Refutation.{Claim}

module _ (G : Game) where
  -- the positions of all claims
  abbrev pub positions_in : List (Claim G) → ℕ
  positions_in cs = total (λ (c : Claim G). length c.set) cs

  -- the reasons of all claims
  abbrev pub reasons_in : List (Claim G) → ℕ
  reasons_in cs = total (λ (c : Claim G). length c.reasons) cs

  -- at most so many claims, and at most so many positions and reasons in all
  pub record AreFew (most each : ℕ) (cs : List (Claim G)) : Type 0 where
    pub claims : length cs ≤ most
    pub positions : positions_in cs ≤ each
    pub reasons : reasons_in cs ≤ each

  -- more claims than that, or more positions or reasons
  abbrev pub AreMany : ℕ → ℕ → List (Claim G) → Type 0
  AreMany most each cs = (most < length cs) ⊎ (each < positions_in cs) ⊎ (each < reasons_in cs)

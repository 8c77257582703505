-- The laws, each a statement that a function of this crate has as its contract.
use Rattle.std.specs.Prelude.{◌≡◌, ℕ, ◌<◌, true, false, List, Some}
use Rattle.std.specs.List.{list_any}
use Rattle.krieg_theory.specs.Sets.{is_nil}
use Rattle.krieg_theory.specs.Game.{Game}
use Rattle.krieg_theory.specs.Plans.{Outset, is_over, can_plan}
use Rattle.krieg_costs.specs.Sums.{IsOnce}
use Rattle.krieg_costs.specs.Refutation.{last_of, refutes}
use Rattle.krieg_claims.specs.InOrder.{in_order}
use Rattle.krieg_claims.specs.Written.{denial}

module _ (G : Game) where
  -- no set is claimed twice with the same number
  abbrev pub ClaimedOnce : Type 0
  ClaimedOnce = (j : ℕ) (B : List G.Position) → IsOnce (in_order G j B)

  -- the set itself is claimed last
  abbrev pub ClaimedLast : Type 0
  ClaimedLast = (j : ℕ) (B : List G.Position) → 0 < j → is_nil B ≡ false → last_of (in_order G j B) ≡ Some (B, j)

module _ (G : Game) (O : Outset G) where
  -- where no plan mates within n and nothing is over, the claims that are written hold, and deny that one does
  abbrev pub DenialRefutes : Type 0
  DenialRefutes = (n : ℕ) (S : List G.Position) → 0 < n → list_any (is_over G O) S ≡ false → can_plan G O n S ≡ false → refutes G O n S (denial G O n S) ≡ true

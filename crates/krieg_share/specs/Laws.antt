-- What sharing a plan does to it: statements that functions of this crate have as contracts.
use Rattle.std.specs.Prelude.{◌≡◌, List}
use Rattle.krieg_theory.specs.Game.{Game}
use Rattle.krieg_theory.specs.Plans.{Outset, Plan, IsCanonPlan}
use Rattle.krieg_strategy.specs.Unfolded.{unfold_plan}
use Rattle.krieg_share.specs.Sharing.{AreShared, shared, shared_roots}

module _ (G : Game) (O : Outset G) where
  -- the canonical plan of a list, once it is shared, unfolds to itself
  abbrev pub SharedUnfolds : Type 0
  SharedUnfolds = (S : List G.Position) (plan : Plan G O) → IsCanonPlan G O plan S →
      unfold_plan (shared G O plan S).nodes (shared_roots G O plan S) ≡ plan

  -- each set that is reached has one node there, which leads to lower numbers, and whose tree is the canonical one of the set
  abbrev pub SetsHaveOneNode : Type 0
  SetsHaveOneNode = (S : List G.Position) (plan : Plan G O) → IsCanonPlan G O plan S → AreShared G (shared G O plan S)

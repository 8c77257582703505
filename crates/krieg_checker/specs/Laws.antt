-- What is reached: statements that functions of this crate have as contracts.
use Rattle.std.specs.Prelude.{List}
use Rattle.krieg_theory.specs.Sets.{In}
use Rattle.krieg_theory.specs.Game.{Game}
use Rattle.krieg_theory.specs.Plans.{Outset, Plan}
use Rattle.krieg_costs.specs.Sums.{IsOnce}
use Rattle.krieg_checker.specs.Reach.{Pair, IsClosed, reached_from}

module _ (G : Game) (O : Outset G) where
  -- no pair is counted twice, however many games lead to it
  abbrev pub ReachedIsOnce : Type 0
  ReachedIsOnce = (plan : Plan G O) (S : List G.Position) → IsOnce (reached_from G O plan S)

  -- the pairs lack nothing of what is reached, and stand in each list that lacks nothing
  abbrev pub ReachedIsLeast : Type 0
  ReachedIsLeast = (plan : Plan G O) (S : List G.Position) → IsClosed G O plan S (reached_from G O plan S) × ((R : List (Pair G O)) → IsClosed G O plan S R → (x : Pair G O) → In x (reached_from G O plan S) → In x R)

-- What is reached: statements that functions of this crate have as contracts.
use Rattle.std.specs.Prelude.{ℕ, ◌<◌, List, length}
use Rattle.krieg_theory.specs.Sets.{In}
use Rattle.krieg_theory.specs.Game.{Game}
use Rattle.krieg_theory.specs.Plans.{Outset}
use Rattle.krieg_costs.specs.Sums.{IsOnce}
use Rattle.krieg_strategy.specs.Nodes.{Node}
use Rattle.krieg_strategy.specs.WellFormed.{AreBelow}
use Rattle.krieg_judge.specs.Reach.{Pair, IsClosed, reached}

module _ (G : Game) (O : Outset G) where
  -- no pair is counted twice, however many games and nodes lead to it
  abbrev pub ReachedIsOnce : Type 0
  ReachedIsOnce = (nodes : List (Node G.Move G.Key)) (roots : List (O.Root × ℕ)) (S : List G.Position) →
      IsOnce (reached G O nodes roots S)

  -- the pairs stand in each list that has what comes first, and with each pair what comes next
  abbrev pub ReachedIsLeast : Type 0
  ReachedIsLeast = (nodes : List (Node G.Move G.Key)) (roots : List (O.Root × ℕ)) (S : List G.Position) (R : List (Pair G)) →
      IsClosed G O nodes roots S R → (x : Pair G) → In x (reached G O nodes roots S) → In x R

  -- and they are such a list, where all numbers are lower ones
  abbrev pub ReachedIsClosed : Type 0
  ReachedIsClosed = (nodes : List (Node G.Move G.Key)) (roots : List (O.Root × ℕ)) (S : List G.Position) → AreBelow nodes →
      ((r : O.Root × ℕ) → In r roots → r.1 < length nodes) → IsClosed G O nodes roots S (reached G O nodes roots S)

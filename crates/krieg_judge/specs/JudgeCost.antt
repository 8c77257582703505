-- What a judgement of a strategy takes.
use Rattle.std.specs.Prelude.{ℕ, suc, ◌+◌, List, length, Option, Some, None, slice_get}
use Rattle.krieg_theory.specs.Game.{Game}
use Rattle.krieg_theory.specs.Split.{given}
use Rattle.krieg_theory.specs.Plans.{Outset}
use Rattle.krieg_costs.specs.Sums.{total}
use Rattle.krieg_checker.specs.CheckCost.{first_cost}
use Rattle.krieg_strategy.specs.Nodes.{Node}
use Rattle.krieg_judge.specs.Reach.{Pair, reached}

module _ (G : Game) where
  -- one unit for a position at a node, and one for each reply where the try is legal
  abbrev pub node_cost : Node G.Move G.Key → G.Position → ℕ
  node_cost n p = suc (length (given G n.mv p))

  -- the same where there is a node
  abbrev pub cost_at : Option (Node G.Move G.Key) → G.Position → ℕ
  cost_at None p = 0
  cost_at (Some n) p = node_cost n p

module _ (G : Game) (O : Outset G) (nodes : List (Node G.Move G.Key)) (roots : List (O.Root × ℕ)) where
  -- what a pair takes
  abbrev pub pair_cost : Pair G → ℕ
  pair_cost x = cost_at G (slice_get nodes x.0) x.1

  -- a judgement over the listed positions: the first moves of the opponent, and all pairs that are reached
  abbrev pub judge_cost : List G.Position → ℕ
  judge_cost S = first_cost G O S + total pair_cost (reached G O nodes roots S)

-- What a check of a plan takes.
use Rattle.std.specs.Prelude.{ℕ, suc, ◌+◌, List, length, if◌then◌else◌}
use Rattle.krieg_theory.specs.Sets.{as_set}
use Rattle.krieg_theory.specs.Tree.{Tree, Try}
use Rattle.krieg_theory.specs.Game.{Game}
use Rattle.krieg_theory.specs.Split.{given}
use Rattle.krieg_theory.specs.Plans.{Outset, Plan}
use Rattle.krieg_costs.specs.Sums.{total}
use Rattle.krieg_checker.specs.Reach.{Pair, reached_from}

module _ (G : Game) (O : Outset G) where
  -- the try of a node
  abbrev pub try_of : Tree G.Move G.Key → G.Move
  try_of (Try t other es) = t

  -- one unit for a pair, and one for each reply where the try is legal
  abbrev pub pair_cost : Pair G O → ℕ
  pair_cost x = suc (length (given G (try_of x.1) x.2))

  -- one for each first move of the opponent, in each listed position in which he is to move
  abbrev pub first_cost : List G.Position → ℕ
  first_cost S = total (λ p. if O.waits p then length (O.starts p) else 0) (as_set G.position_lt S)

  -- a check of a plan over the listed positions: his first moves, and all pairs that are reached
  abbrev pub check_cost : Plan G O → List G.Position → ℕ
  check_cost plan S = first_cost S + total pair_cost (reached_from G O plan S)

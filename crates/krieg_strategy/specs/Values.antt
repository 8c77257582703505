-- What a strategy means.
use Rattle.std.specs.Prelude.{map}
use Rattle.krieg_plan.specs.Trees.{PlanTrees}
use Rattle.krieg_strategy.specs.Roots.{root_of}
use Rattle.krieg_strategy.specs.Unfolded.{unfold_plan}
use Rattle.krieg_strategy.specs.declared.strategy.Strategy.{Strategy}

-- the plan that it unfolds to
abbrev pub plan_in : Strategy → PlanTrees
plan_in s = unfold_plan s.nodes (map root_of s.roots.items)

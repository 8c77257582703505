-- What a plan means.
use Rattle.std.specs.Prelude.{map}
use Rattle.krieg_plan.specs.Trees.{PlanTrees}
use Rattle.krieg_plan.specs.Roots.{root_of}
use Rattle.krieg_plan.specs.declared.plan.Plan.{Plan}

-- its roots' keys with the trees that they lead to
abbrev pub plan_of : Plan → PlanTrees
plan_of p = map root_of p.roots.items

use Rattle.std.proofs.Common.{◌≡◌, ◌+◌, map, drop}
use Rattle.krieg_plan.proofs.Common.{root_of, plan_size}
use Rattle.krieg_plan.proofs.size.left_of.Given as goal

abbrev pub invariant-loop-r : goal.invariant-loop-r
invariant-loop-r l = l.left + plan_size (map root_of l.roots) ≡ l.max + plan_size (map root_of (drop l.r-index l.roots))

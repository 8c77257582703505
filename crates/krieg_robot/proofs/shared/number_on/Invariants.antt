use Rattle.std.proofs.Common.{◌≡◌, ◌<◌, drop, length}
use Rattle.std.specs.Prelude.{IfSome}
use Rattle.krieg_strategy.specs.Values.{plan_in}
use Rattle.krieg_robot.proofs.Common.{Nothing, node_at, node_on}
use Rattle.krieg_robot.proofs.shared.number_on.Given as goal

-- the number is that of a node, and the steps that are left lead on from there as all steps do
abbrev pub invariant-loop-step : goal.invariant-loop-step
invariant-loop-step l =
    IfSome l.number (λ i. i < length l.strategy.nodes)
    × (node_on (plan_in l.strategy) (node_at l.strategy l.number) (drop l.step-index l.way) ≡ node_on (plan_in l.strategy) Nothing l.way)

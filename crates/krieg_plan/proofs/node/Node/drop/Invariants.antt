use Rattle.krieg_plan.proofs.Common.{tree_of}
use Rattle.krieg_plan.proofs.Dropping.{weight}
use Rattle.krieg_plan.proofs.node.Node.drop.Given as goal

abbrev pub decreases-loop-last : goal.decreases-loop-last
decreases-loop-last l = weight (tree_of l.self)

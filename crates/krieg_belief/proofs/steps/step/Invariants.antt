use Rattle.std.proofs.Common.{◌≡◌, take, flat_map}
use Rattle.krieg_belief.proofs.Common.{set_of, nexts}
use Rattle.krieg_belief.proofs.steps.step.Given as goal

abbrev pub invariant-loop-k : goal.invariant-loop-k
invariant-loop-k l = set_of l.out.items ≡ set_of (flat_map (nexts l.hearing.dialect l.hearing.side l.line) (take l.k-index l.k-items))

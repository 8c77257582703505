use Rattle.krieg_nets.specs.Nets.{AreStale}
use Rattle.krieg_nets.specs.Others.{lone_of}
use Rattle.krieg_nets.proofs.stale.stalemates.Given as goal

abbrev pub invariant-loop-rest : goal.invariant-loop-rest
invariant-loop-rest l = AreStale l.men.bits (lone_of l.men.others) l.stale

abbrev pub decreases-loop-rest : goal.decreases-loop-rest
decreases-loop-rest l = l.rest

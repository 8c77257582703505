use Rattle.krieg_judge.proofs.Walks.{IsWalked}
use Rattle.krieg_judge.proofs.judging.need_of.Given as goal

abbrev pub invariant-loop-next : goal.invariant-loop-next
invariant-loop-next l = IsWalked l.s l.set l.found l.units l.fn.units

abbrev pub decreases-loop-next : goal.decreases-loop-next
decreases-loop-next l = l.units

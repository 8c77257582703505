use Rattle.std.proofs.Common.{◌≡◌, take}
use Rattle.krieg_belief.proofs.Numbers.{numbers}
use Rattle.krieg_belief.proofs.links.begin.Given as goal

abbrev pub invariant-loop-i : goal.invariant-loop-i
invariant-loop-i l = l.tales.entries ≡ numbers 0 (take l.i l.starts)

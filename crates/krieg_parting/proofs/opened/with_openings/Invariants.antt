use Rattle.std.proofs.Common.{map, take}
use Rattle.krieg_parting.proofs.Common.{Holds, opened, silent}
use Rattle.krieg_parting.proofs.opened.with_openings.Given as goal

abbrev pub invariant-loop-member : goal.invariant-loop-member
invariant-loop-member l = Holds l.pool (map (opened l.d silent) (take l.member-index l.members))

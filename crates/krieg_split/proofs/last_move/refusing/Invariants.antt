use Rattle.std.proofs.Common.{◌≡◌, filter, take}
use Rattle.krieg_split.proofs.Common.{refuses}
use Rattle.krieg_split.proofs.last_move.refusing.Given as goal

abbrev pub invariant-loop-member : goal.invariant-loop-member
invariant-loop-member l = l.refused.items ≡ filter (refuses l.mv) (take l.member-index l.members)

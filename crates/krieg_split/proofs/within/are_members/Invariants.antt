use Rattle.std.proofs.Common.{◌≡◌, drop}
use Rattle.krieg_split.proofs.Common.{position_lt, is_within}
use Rattle.krieg_split.proofs.within.are_members.Given as goal

abbrev pub invariant-loop-member : goal.invariant-loop-member
invariant-loop-member l = is_within position_lt (drop l.member-index l.members) l.set ≡ is_within position_lt l.members l.set

use Rattle.std.proofs.Common.{◌≡◌, drop}
use Rattle.std.specs.List.{list_any}
use Rattle.krieg_refute.proofs.Common.{lives}
use Rattle.krieg_refute.proofs.claiming.lives_in_some.Given as goal

abbrev pub invariant-loop-member : goal.invariant-loop-member
invariant-loop-member l = list_any (lives l.mv) l.members ≡ list_any (lives l.mv) (drop l.member-index l.members)

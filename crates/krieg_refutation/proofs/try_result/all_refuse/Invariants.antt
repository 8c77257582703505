use Rattle.std.proofs.Common.{◌≡◌, drop}
use Rattle.std.specs.List.{list_all}
use Rattle.krieg_refutation.proofs.Common.{refuses}
use Rattle.krieg_refutation.proofs.try_result.all_refuse.Given as goal

abbrev pub invariant-loop-member : goal.invariant-loop-member
invariant-loop-member l = list_all (refuses l.mv) (drop l.member-index l.members) ≡ list_all (refuses l.mv) l.members

use Rattle.std.proofs.Common.{◌≡◌, drop}
use Rattle.std.specs.List.{list_all}
use Rattle.krieg_refutation.proofs.Common.{opens_with}
use Rattle.krieg_refutation.proofs.denial.all_open_with.Given as goal

abbrev pub invariant-loop-member : goal.invariant-loop-member
invariant-loop-member l = list_all (opens_with l.d l.words) (drop l.member-index l.members) ≡ list_all (opens_with l.d l.words) l.members

use Rattle.std.proofs.Common.{◌≡◌, ◌+◌, ◌≤◌, drop}
use Rattle.krieg_parting.proofs.Common.{made, chess}
use Rattle.krieg_parting.proofs.Gathering.{IsLeft}
use Rattle.krieg_parting.proofs.parts.gather.Given as goal

abbrev pub invariant-loop-member : goal.invariant-loop-member
invariant-loop-member l = record {
  left : IsLeft l.attempt l.parts (drop l.member-index l.members) l.members;
  taken : l.units + made (chess l.attempt.dialect) l.members l.attempt.mv ≡ l.initial.units + made (chess l.attempt.dialect) (drop l.member-index l.members) l.attempt.mv;
  fewer : l.units ≤ l.initial.units;
}

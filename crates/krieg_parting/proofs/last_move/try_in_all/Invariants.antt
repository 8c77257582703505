use Rattle.std.proofs.Common.{◌≡◌, ◌+◌, ◌≤◌, drop}
use Rattle.krieg_parting.proofs.Common.{looked_at}
use Rattle.krieg_parting.proofs.Trying.{IsLeft}
use Rattle.krieg_parting.proofs.last_move.try_in_all.Given as goal

abbrev pub invariant-loop-member : goal.invariant-loop-member
invariant-loop-member l = record {
  left : IsLeft l.always l.found (drop l.member-index l.members) l.members l.mv;
  taken : l.units + looked_at l.members l.mv ≡ l.initial.units + looked_at (drop l.member-index l.members) l.mv;
  fewer : l.units ≤ l.initial.units;
}

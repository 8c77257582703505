use Rattle.std.proofs.Common.{◌≡◌, ◌+◌, ◌≤◌, drop, take}
use Rattle.krieg_judge.proofs.Common.{start_cost, total}
use Rattle.krieg_judge.proofs.FirstTurns.{AreAdded}
use Rattle.krieg_judge.proofs.start.start.Given as goal

abbrev pub invariant-loop-member : goal.invariant-loop-member
invariant-loop-member l = record {
  added : AreAdded l.s (take l.member-index l.members) l.initial.found l.found;
  taken : l.units + total (start_cost l.s) l.members ≡ l.initial.units + total (start_cost l.s) (drop l.member-index l.members);
  fewer : l.units ≤ l.initial.units;
}

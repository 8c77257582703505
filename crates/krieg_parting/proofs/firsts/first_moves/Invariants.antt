use Rattle.std.proofs.Common.{◌≡◌, ◌+◌, ◌≤◌, length, drop}
use Rattle.krieg_parting.proofs.Common.{moves, total}
use Rattle.krieg_parting.proofs.Advancing.{IsLeft}
use Rattle.krieg_parting.proofs.firsts.first_moves.Given as goal

abbrev pub invariant-loop-member : goal.invariant-loop-member
invariant-loop-member l = record {
  left : IsLeft l.d l.found (drop l.member-index l.members) l.members;
  taken : l.units + total (λ p. length (moves p)) l.members ≡ l.initial.units + total (λ p. length (moves p)) (drop l.member-index l.members);
  fewer : l.units ≤ l.initial.units;
}

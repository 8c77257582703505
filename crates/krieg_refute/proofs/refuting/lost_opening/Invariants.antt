use Rattle.std.proofs.Common.{◌≡◌, drop, find}
use Rattle.krieg_refute.proofs.Common.{is_lost_opening}
use Rattle.krieg_refute.proofs.refuting.lost_opening.Given as goal

abbrev pub invariant-loop-o : goal.invariant-loop-o
invariant-loop-o l = find (is_lost_opening l.table l.moves) (drop l.o-index l.o-items) ≡ find (is_lost_opening l.table l.moves) l.o-items

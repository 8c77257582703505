use Rattle.std.proofs.Common.{◌≡◌}
use Rattle.krieg_record.proofs.Common.{leaving}
use Rattle.krieg_record.proofs.san_reading.first_from.Given as goal

abbrev pub invariant-loop-rest : goal.invariant-loop-rest
invariant-loop-rest l = leaving l.p l.n l.rest ≡ leaving l.p l.n l.initial.rest

abbrev pub decreases-loop-rest : goal.decreases-loop-rest
decreases-loop-rest l = l.rest

use Rattle.std.proofs.Common.{◌≡◌}
use Rattle.krieg_board.proofs.Common.{attacks, is_attacked}
use Rattle.krieg_board.proofs.Searching.{some_of}
use Rattle.krieg_board.proofs.threat.is_threatened.Given as goal

abbrev pub invariant-loop-left : goal.invariant-loop-left
invariant-loop-left l = some_of (λ f. attacks l.b f l.s) l.left ≡ is_attacked l.b l.s l.fn.by

abbrev pub decreases-loop-left : goal.decreases-loop-left
decreases-loop-left l = l.left

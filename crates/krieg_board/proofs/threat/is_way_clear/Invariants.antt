use Rattle.std.proofs.Common.{◌≡◌, not}
use Rattle.krieg_board.proofs.Common.{is_between, is_clear}
use Rattle.krieg_board.proofs.Searching.{some_of}
use Rattle.krieg_board.proofs.threat.is_way_clear.Given as goal

abbrev pub invariant-loop-left : goal.invariant-loop-left
invariant-loop-left l = not (some_of (is_between l.from l.to) l.left) ≡ is_clear l.b l.from l.to

abbrev pub decreases-loop-left : goal.decreases-loop-left
decreases-loop-left l = l.left

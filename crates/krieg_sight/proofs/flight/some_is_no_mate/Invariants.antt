use Rattle.std.proofs.Common.{◌≤◌}
use Rattle.krieg_sight.proofs.flight.some_is_no_mate.Given as goal

abbrev pub invariant-loop-place : goal.invariant-loop-place
invariant-loop-place l = l.sight.left ≤ l.fn.sight.left

use Rattle.std.proofs.Common.{ℕ, ◌<◌, ◌≡◌, ◌&&◌}
use Rattle.krieg_moves.proofs.Common.{has, answers_all}
use Rattle.krieg_moves.proofs.guard.answers_to.Given as goal

abbrev pub decreases-loop-rest : goal.decreases-loop-rest
decreases-loop-rest l = l.rest

abbrev pub invariant-loop-rest : goal.invariant-loop-rest
invariant-loop-rest l = (t : ℕ) → t < 64 → (has l.answers t && answers_all l.rest l.square t) ≡ answers_all l.initial.rest l.square t

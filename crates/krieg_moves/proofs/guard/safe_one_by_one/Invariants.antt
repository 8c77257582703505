use Rattle.std.proofs.Common.{ℕ, ◌<◌, ◌≡◌, ◌&&◌, ◌||◌, not, set}
use Rattle.std.specs.Prelude.{None}
use Rattle.krieg_moves.proofs.Common.{is_attacked, has}
use Rattle.krieg_moves.proofs.guard.safe_one_by_one.Given as goal

abbrev pub decreases-loop-rest : goal.decreases-loop-rest
decreases-loop-rest l = l.rest

abbrev pub invariant-loop-rest : goal.invariant-loop-rest
invariant-loop-rest l =
    (t : ℕ) → t < 64 → (has l.safe t || (has l.rest t && not (is_attacked (set l.b l.gone None) t l.by))) ≡ (has l.initial.rest t && not (is_attacked (set l.b l.gone None) t l.by))

use Rattle.std.proofs.Common.{◌≡◌, ◌<◌, ℕ, ◌&&◌, ◌||◌}
use Rattle.krieg_rays.proofs.Common.{is_clear, some_square, has}
use Rattle.krieg_rays.proofs.Pinning.{shields}
use Rattle.krieg_rays.proofs.pin.king_lines.Given as goal

abbrev pub invariant-loop-rest : goal.invariant-loop-rest
invariant-loop-rest l =
    ((s : ℕ) → s < 64 → (has l.checkers s || (has l.rest s && is_clear l.b l.king s)) ≡ (has l.initial.checkers s || (has l.initial.rest s && is_clear l.b l.king s)))
    × ((s : ℕ) → s < 64 →
    (has l.pinned s || some_square (λ f. has l.rest f && shields l.b l.fn.who l.king s f)) ≡ some_square (λ f. has l.initial.rest f && shields l.b l.fn.who l.king s f))

abbrev pub decreases-loop-rest : goal.decreases-loop-rest
decreases-loop-rest l = l.rest

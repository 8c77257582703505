use Rattle.std.proofs.Common.{◌≡◌, ◌<◌, ℕ, ◌&&◌, ◌||◌}
use Rattle.std.specs.Prelude.{Some}
use Rattle.krieg_rays.proofs.Common.{some_square, has, reaches}
use Rattle.krieg_rays.proofs.attack.attacked_by_each.Given as goal

abbrev pub invariant-loop-rest : goal.invariant-loop-rest
invariant-loop-rest l =
    (s : ℕ) → s < 64 →
    (has l.attacked s || some_square (λ f. has l.rest f && reaches l.occupied (Some l.man) f s)) ≡ some_square (λ f. has l.initial.rest f && reaches l.occupied (Some l.man) f s)

abbrev pub decreases-loop-rest : goal.decreases-loop-rest
decreases-loop-rest l = l.rest

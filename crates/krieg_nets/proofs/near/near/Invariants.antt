use Rattle.std.proofs.Common.{◌≡◌, ◌<◌, ℕ, ◌&&◌, ◌||◌}
use Rattle.krieg_board.specs.Sets.{has}
use Rattle.krieg_board.specs.Squares.{some_square}
use Rattle.krieg_board.specs.declared.men.Kind.TheVariants.{King}
use Rattle.krieg_board.specs.declared.men.Side.TheVariants.{White}
use Rattle.krieg_rays.specs.Rays.{goes}
use Rattle.krieg_nets.proofs.near.near.Given as goal

abbrev pub invariant-loop-rest : goal.invariant-loop-rest
invariant-loop-rest l =
    (k : ℕ) → k < 64 →
    (has l.near k || some_square (λ f. has l.rest f && goes King White f k)) ≡ some_square (λ f. has l.initial.rest f && goes King White f k)

abbrev pub decreases-loop-rest : goal.decreases-loop-rest
decreases-loop-rest l = l.rest

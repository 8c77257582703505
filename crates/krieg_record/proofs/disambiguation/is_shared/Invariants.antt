use Rattle.std.proofs.Common.{◌≡◌, ◌&&◌}
use Rattle.krieg_record.proofs.Common.{some_square, has, fits, is_rival}
use Rattle.krieg_record.proofs.disambiguation.is_shared.Given as goal

-- the rivals of whom it is true are among those that are left
abbrev pub invariant-loop-rest : goal.invariant-loop-rest
invariant-loop-rest l =
    some_square (λ s. has l.rest s && (fits l.origin s && is_rival l.p l.officer l.mv s))
    ≡ some_square (λ s. has l.initial.rest s && (fits l.origin s && is_rival l.p l.officer l.mv s))

abbrev pub decreases-loop-rest : goal.decreases-loop-rest
decreases-loop-rest l = l.rest

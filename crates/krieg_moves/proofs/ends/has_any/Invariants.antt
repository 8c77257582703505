use Rattle.std.proofs.Common.{◌≡◌}
use Rattle.std.specs.List.{filter}
use Rattle.krieg_board.proofs.Picked.{picked}
use Rattle.krieg_moves.proofs.Common.{is_legal, moves_from}
use Rattle.krieg_moves.proofs.ends.has_any.Given as goal

abbrev pub decreases-loop-rest : goal.decreases-loop-rest
decreases-loop-rest l = l.rest

abbrev pub invariant-loop-rest : goal.invariant-loop-rest
invariant-loop-rest l = picked l.rest (λ k. filter (is_legal l.p) (moves_from k)) ≡ picked l.initial.rest (λ k. filter (is_legal l.p) (moves_from k))

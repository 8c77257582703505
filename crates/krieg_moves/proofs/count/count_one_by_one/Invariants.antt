use Rattle.std.proofs.Common.{◌≡◌, ◌+◌, length}
use Rattle.std.specs.List.{filter}
use Rattle.krieg_board.proofs.Picked.{picked}
use Rattle.krieg_moves.proofs.Common.{is_legal, moves_from}
use Rattle.krieg_moves.proofs.count.count_one_by_one.Given as goal

abbrev pub decreases-loop-rest : goal.decreases-loop-rest
decreases-loop-rest l = l.rest

abbrev pub invariant-loop-rest : goal.invariant-loop-rest
invariant-loop-rest l =
    l.count + length (picked l.rest (λ k. filter (is_legal l.p) (moves_from k))) ≡ length (picked l.initial.rest (λ k. filter (is_legal l.p) (moves_from k)))

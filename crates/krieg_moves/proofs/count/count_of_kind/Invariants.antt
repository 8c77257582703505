use Rattle.std.proofs.Common.{◌≡◌, ◌<◌, ◌+◌, ℕ, true, length, bit_and}
use Rattle.std.specs.List.{filter}
use Rattle.krieg_moves.proofs.Common.{has, is_legal, moves_from}
use Rattle.krieg_board.proofs.Picked.{picked}
use Rattle.krieg_moves.proofs.count.count_of_kind.Given as goal

abbrev pub decreases-loop-rest : goal.decreases-loop-rest
decreases-loop-rest l = l.rest

abbrev pub invariant-loop-rest : goal.invariant-loop-rest
invariant-loop-rest l =
    (l.count + length (picked l.rest (λ k. filter (is_legal l.p) (moves_from k))) ≡ length (picked l.initial.rest (λ k. filter (is_legal l.p) (moves_from k))))
    × ((k : ℕ) → k < 64 → has l.rest k ≡ true → has (bit_and l.men l.of_kind) k ≡ true)

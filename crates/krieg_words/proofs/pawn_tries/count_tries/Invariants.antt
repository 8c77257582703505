use Rattle.std.proofs.Common.{◌≡◌, ◌+◌, ◌<◌, ℕ, true}
use Rattle.krieg_words.proofs.Common.{has, tries_from, tries}
use Rattle.krieg_words.proofs.PawnCaptures.{is_own_pawn}
use Rattle.krieg_words.proofs.TriesCount.{sum_over}
use Rattle.krieg_words.proofs.pawn_tries.count_tries.Given as goal

abbrev pub decreases-loop-rest : goal.decreases-loop-rest
decreases-loop-rest l = l.rest

abbrev pub invariant-loop-rest : goal.invariant-loop-rest
invariant-loop-rest l = (l.n + sum_over l.rest (tries_from l.p) ≡ tries l.p) × ((k : ℕ) → k < 64 → has l.rest k ≡ true → is_own_pawn l.p k ≡ true)

use Rattle.std.proofs.Common.{◌≡◌, ◌<◌, ◌+◌, length}
use Rattle.krieg_make.proofs.Common.{gathered, pairs_above}
use Rattle.krieg_make.proofs.position.pair_at.Given as goal

abbrev pub invariant-lower : goal.invariant-lower
invariant-lower l = (l.lower < 23) × (length (gathered pairs_above l.lower) + l.rest ≡ l.q)

abbrev pub decreases-lower : goal.decreases-lower
decreases-lower l = l.rest

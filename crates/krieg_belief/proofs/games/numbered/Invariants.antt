use Rattle.std.proofs.Common.{◌≡◌, map, take}
use Rattle.krieg_belief.proofs.Common.{entry_at}
use Rattle.krieg_belief.proofs.games.numbered.Given as goal

abbrev pub invariant-loop-k : goal.invariant-loop-k
invariant-loop-k l = l.lasts.items ≡ map (entry_at l.tales.entries) (take l.k-index l.k-items)

use Rattle.std.proofs.Common.{◌≡◌, [], map, take}
use Rattle.krieg_split.proofs.Common.{tally_of}
use Rattle.krieg_split.proofs.tallies.tallies_of_none.Given as goal

abbrev pub invariant-loop-mv : goal.invariant-loop-mv
invariant-loop-mv l = l.tallies.items ≡ map (tally_of []) (take l.mv-index l.tries)

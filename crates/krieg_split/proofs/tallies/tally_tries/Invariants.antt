use Rattle.std.proofs.Common.{◌≡◌, map, take}
use Rattle.krieg_split.proofs.Common.{tally_of}
use Rattle.krieg_split.proofs.tallies.tally_tries.Given as goal

abbrev pub invariant-loop-member : goal.invariant-loop-member
invariant-loop-member l = l.tallies.items ≡ map (tally_of (take l.member-index l.fn.b)) l.tries.items

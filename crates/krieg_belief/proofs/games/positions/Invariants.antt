use Rattle.std.proofs.Common.{◌≡◌, map, take}
use Rattle.krieg_belief.proofs.Common.{place_of}
use Rattle.krieg_belief.proofs.games.positions.Given as goal

abbrev pub invariant-loop-i : goal.invariant-loop-i
invariant-loop-i l = l.packed.items ≡ map place_of (take l.i l.tales.entries)

use Rattle.std.proofs.Common.{◌≡◌, take}
use Rattle.std.specs.List.{All}
use Rattle.krieg_outcome.proofs.Common.{IsValid}
use Rattle.krieg_outcome.proofs.commands.asked.listed.Given as goal

-- the members so far
abbrev pub invariant-loop-i : goal.invariant-loop-i
invariant-loop-i l = (l.list.items ≡ take l.i l.set) × All IsValid l.list.items

use Rattle.std.proofs.Common.{map, take, flat_map}
use Rattle.krieg_outcome.proofs.Common.{HasLines, told_of, heard_lines}
use Rattle.krieg_outcome.proofs.commands.keys.put_roots.Given as goal

-- the lines of what may be heard before this
abbrev pub invariant-loop-at : goal.invariant-loop-at
invariant-loop-at l = HasLines l.initial.text l.text (flat_map (heard_lines l.d) (map told_of (take l.at-index l.roots)))

use Rattle.std.proofs.Common.{map, take}
use Rattle.krieg_strategyfile.proofs.Common.{HasLines, root_of, root_to_line}
use Rattle.krieg_strategyfile.proofs.writing.put_each_root.Given as goal

-- the lines of the roots before this one
abbrev pub invariant-loop-r : goal.invariant-loop-r
invariant-loop-r l = HasLines l.initial.text l.text (map (root_to_line l.d) (map root_of (take l.r-index l.roots)))

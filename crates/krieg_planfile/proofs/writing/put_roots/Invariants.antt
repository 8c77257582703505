use Rattle.std.proofs.Common.{map, take}
use Rattle.krieg_planfile.proofs.Common.{HasLines, root_of, branches_lines, root_line}
use Rattle.krieg_planfile.proofs.writing.put_roots.Given as goal

-- the lines of the roots before this one
abbrev pub invariant-loop-r : goal.invariant-loop-r
invariant-loop-r l = HasLines l.initial.text l.text (branches_lines (root_line l.d) l.d (map root_of (take l.r-index l.roots)))

use Rattle.std.proofs.Common.{map, take}
use Rattle.krieg_strategyfile.proofs.Common.{HasLines, edge_line, edge_of}
use Rattle.krieg_strategyfile.proofs.writing.put_edges.Given as goal

-- the lines of the edges before this one
abbrev pub invariant-loop-e : goal.invariant-loop-e
invariant-loop-e l = HasLines l.initial.text l.text (map (edge_line l.d) (map edge_of (take l.e-index l.edges)))

use Rattle.std.proofs.Common.{◌+◌, ◌*◌, map, take}
use Rattle.krieg_planfile.proofs.Common.{HasLines, size, size_other, size_edges, tree_of, edge_of, edges_in, out-Node, other_in, on_line, branches_lines}
use Rattle.krieg_planfile.proofs.writing.+writing.Given as goal

-- the lines of the edges before this one
abbrev pub invariant-put_edges-loop-e : goal.invariant-put_edges-loop-e
invariant-put_edges-loop-e l = HasLines l.initial.text l.text (branches_lines (on_line l.d) l.d (map edge_of (take l.e-index (out-Node l.n).edges.items)))

abbrev pub decreases-put_node : goal.decreases-put_node
decreases-put_node l = 3 * size (tree_of l.n.now)

abbrev pub decreases-put_other : goal.decreases-put_other
decreases-put_other l = 3 * size_other (other_in (tree_of l.n.now)) + 1

abbrev pub decreases-put_edges : goal.decreases-put_edges
decreases-put_edges l = 3 * size_edges (edges_in (tree_of l.n.now)) + 2

abbrev pub decreases-put_edge : goal.decreases-put_edge
decreases-put_edge l = 3 * size (edge_of l.e.now).1 + 1

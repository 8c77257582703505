use Rattle.std.proofs.Common.{◌≡◌, ◌-◌, ◌+◌, ◌*◌, None, map}
use Rattle.krieg_planfile.proofs.Common.{edge_of, on_form}
use Rattle.krieg_planfile.specs.NodeReading as spec
use Rattle.krieg_planfile.proofs.Branches.{with_front}
use Rattle.krieg_planfile.proofs.nodes.+reading.Given as goal

abbrev pub decreases-read_below : goal.decreases-read_below
decreases-read_below l = 4 * l.room + 3

abbrev pub decreases-read_edges : goal.decreases-read_edges
decreases-read_edges l = 4 * l.room + 2

abbrev pub decreases-read_edge : goal.decreases-read_edge
decreases-read_edge l = 4 * l.room + 1

abbrev pub decreases-read_other : goal.decreases-read_other
decreases-read_other l = 4 * l.room + 1

abbrev pub decreases-read_node : goal.decreases-read_node
decreases-read_node l = 4 * l.room

-- the rest, read after the edges that are there, gives the whole
abbrev pub invariant-read_edges-loop-i : goal.invariant-read_edges-loop-i
invariant-read_edges-loop-i l =
    with_front (spec.node_at l.room l.d) (on_form l.d) (map edge_of l.edges.items) (spec.branches_by (spec.node_at l.room l.d) (on_form l.d) (l.k - l.i) l.last l.left l.from)
    ≡ spec.branches_by (spec.node_at l.room l.d) (on_form l.d) l.k None l.initial.left l.initial.from

use Rattle.std.proofs.Common.{◌≡◌, ◌-◌}
use Rattle.krieg_format.proofs.Repeats.{with_front}
use Rattle.krieg_strategyfile.proofs.Common.{repeated, with_node, node_at, nodes_at, counts_of}
use Rattle.krieg_strategyfile.proofs.nodes.read_nodes.Given as goal

-- the rest, read after the nodes that are there, gives the whole
abbrev pub invariant-loop-i : goal.invariant-loop-i
invariant-loop-i l = record {
  counted : counts_of l.nodes ≡ record { nodes = l.i; edges = l.before };
  read : with_front l.nodes (repeated (l.n - l.i) (node_at l.d) with_node (counts_of l.nodes) l.from) ≡ nodes_at l.d l.n l.initial.from;
}

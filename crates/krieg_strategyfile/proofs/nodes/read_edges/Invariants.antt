use Rattle.std.proofs.Common.{◌≡◌, ◌-◌, Some, map}
use Rattle.krieg_format.proofs.Repeats.{with_front}
use Rattle.krieg_strategyfile.proofs.Common.{repeated, edge_of, edge_at, edges_at}
use Rattle.krieg_strategyfile.proofs.nodes.read_edges.Given as goal

-- the rest, read after the edges that are there, gives the whole
abbrev pub invariant-loop-i : goal.invariant-loop-i
invariant-loop-i l = record {
  read : with_front (map edge_of l.edges.items) (repeated (l.n - l.i) (edge_at l.d l.own) (λ last e. Some e.0) l.last l.from) ≡ edges_at l.d l.own l.n l.initial.from;
}

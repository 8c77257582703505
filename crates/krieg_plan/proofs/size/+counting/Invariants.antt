use Rattle.std.proofs.Common.{◌≡◌, ◌+◌, ◌*◌, ◌≤◌, map, drop}
use Rattle.krieg_plan.proofs.Common.{size, size_edges, tree_of, edge_of, as_edges}
use Rattle.krieg_plan.proofs.size.+counting.Given as goal

abbrev pub decreases-left_after : goal.decreases-left_after
decreases-left_after l = 2 * size (tree_of l.n.now)

abbrev pub decreases-left_below : goal.decreases-left_below
decreases-left_below l = 2 * size_edges (as_edges (map edge_of l.edges.now)) + 1

abbrev pub invariant-left_after-nodes : goal.invariant-left_after-nodes
invariant-left_after-nodes l = record {
  counted : l.left + size (tree_of l.n) ≡ l.max + size (tree_of l.here);
  within : l.left ≤ l.max;
}

abbrev pub decreases-left_after-nodes : goal.decreases-left_after-nodes
decreases-left_after-nodes l = l.left

abbrev pub invariant-left_below-loop-e : goal.invariant-left_below-loop-e
invariant-left_below-loop-e l = record {
  counted : l.left + size_edges (as_edges (map edge_of l.edges)) ≡ l.max + size_edges (as_edges (map edge_of (drop l.e-index l.edges)));
  within : l.left ≤ l.max;
}

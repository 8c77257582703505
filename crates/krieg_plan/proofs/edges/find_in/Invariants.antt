use Rattle.std.proofs.Common.{◌≡◌, map, drop}
use Rattle.krieg_plan.proofs.Common.{first_edge, key_lt, edge_of, as_edges}
use Rattle.krieg_plan.proofs.edges.find_in.Given as goal

abbrev pub invariant-loop-e : goal.invariant-loop-e
invariant-loop-e l = first_edge key_lt (as_edges (map edge_of (drop l.e-index l.list))) (l.own, l.reply) ≡ first_edge key_lt (as_edges (map edge_of l.list)) (l.own, l.reply)

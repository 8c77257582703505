use Rattle.std.proofs.Common.{◌≡◌, map, drop}
use Rattle.krieg_strategy.proofs.Common.{first_to, key_lt, edge_of}
use Rattle.krieg_strategy.proofs.edge.find_edge_to.Given as goal

abbrev pub invariant-loop-e : goal.invariant-loop-e
invariant-loop-e l = first_to key_lt (map edge_of (drop l.e-index l.edges)) (l.own, l.reply) ≡ first_to key_lt (map edge_of l.edges) (l.own, l.reply)

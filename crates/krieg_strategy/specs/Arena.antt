-- Nodes in an arena: the edges of all stand in one list, and each node has a range of it.
use Rattle.std.specs.Prelude.{◌≡◌, ◌-◌, ◌≤◌, List, length, map, slice_range}
use Rattle.krieg_board.specs.declared.men.Move.{Move}
use Rattle.krieg_theory.specs.Sets.{In}
use Rattle.krieg_costs.specs.Sums.{total}
use Rattle.krieg_game.specs.Keys.{Key}
use Rattle.krieg_strategy.specs.Nodes.{Node}
use Rattle.krieg_strategy.specs.WellFormed.{AreBelow, HaveOrder}
use Rattle.krieg_strategy.specs.declared.limits.TheConstants.{MOST_NODES, MOST_EDGES}
use Rattle.krieg_strategy.specs.Edges.{edge_of}
use Rattle.krieg_strategy.specs.declared.edge.StrategyEdge.{StrategyEdge}
use Rattle.krieg_strategy.specs.declared.edge.Slot.{Slot}

-- the node of a slot: its edges are a range of all
abbrev pub node_in : List StrategyEdge → Slot → Node Move Key
node_in es s = record { mv = s.mv; no = s.no; edges = map edge_of (slice_range es s.from s.to) }

-- the nodes of an arena
abbrev pub nodes_in : List StrategyEdge → List Slot → List (Node Move Key)
nodes_in es ss = map (node_in es) ss

-- each slot has a range of the edges, all ranges together are as long as these, and the nodes are well formed
pub record IsArena (es : List StrategyEdge) (ss : List Slot) : Type 0 where
  pub ranges : (s : Slot) → In s ss → (s.from ≤ s.to) × (s.to ≤ length es)
  pub counted : total (λ s. s.to - s.from) ss ≡ length es
  pub few_edges : length es ≤ MOST_EDGES
  pub few_nodes : length ss ≤ MOST_NODES
  pub below : AreBelow (nodes_in es ss)
  pub have_order : HaveOrder (nodes_in es ss)

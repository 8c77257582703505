-- The words of specs/, of this crate and of those below it, that its proofs cite: passed on from one place.
pub use Rattle.krieg_board.specs.declared.men.Move.{Move}
pub use Rattle.krieg_theory.specs.Sets.{In, same}
pub use Rattle.krieg_theory.specs.Tree.{Edge, Edges, Just, Maybe, NoEdges, Nothing, Tree, Try, first_edge, first_root}
pub use Rattle.krieg_costs.specs.Sums.{total}
pub use Rattle.krieg_game.specs.Keys.{Key, RootKey, key_cmp, key_lt, root_cmp, root_lt}
pub use Rattle.krieg_strategy.specs.Arena.{IsArena, node_in, nodes_in}
pub use Rattle.krieg_strategy.specs.Edges.{edge_of}
pub use Rattle.krieg_strategy.specs.Nodes.{Node, first_to}
pub use Rattle.krieg_strategy.specs.Roots.{root_of}
pub use Rattle.krieg_strategy.specs.Seen.{node_of}
pub use Rattle.krieg_strategy.specs.Unfolded.{as_maybe, edge_to, edges_on, led_to, root_to, roots_on, tree_on, trees_on, unfold_plan}
pub use Rattle.krieg_strategy.specs.WellFormed.{AreBelow, HasOrder, HaveOrder, IsBelow}
pub use Rattle.krieg_strategy.specs.declared.edge.Slot.{Slot}
pub use Rattle.krieg_strategy.specs.declared.edge.StrategyEdge.{StrategyEdge}
unfoldable pub use Rattle.krieg_strategy.specs.Unfolded.{trees_of}
pub use Rattle.krieg_strategy.specs.declared.limits.TheConstants.{MOST_EDGES, MOST_NODES}

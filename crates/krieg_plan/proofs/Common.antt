-- The words of specs/, of this crate and of those below it, that its proofs cite: passed on from one place.
pub use Rattle.krieg_board.specs.Pos.{Pos}
pub use Rattle.krieg_board.specs.declared.men.Move.{Move}
pub use Rattle.krieg_board.specs.declared.men.Side.{Side}
pub use Rattle.krieg_words.specs.declared.dialects.Dialect.{Dialect}
pub use Rattle.krieg_theory.specs.Canonical.{edge_keys}
pub use Rattle.krieg_theory.specs.Plans.{wins_root}
pub use Rattle.krieg_theory.specs.Sets.{In, same}
pub use Rattle.krieg_theory.specs.Tree.{Edges, Just, Maybe, NoEdges, Nothing, Try, first_edge, size, size_edges, size_other}
pub use Rattle.krieg_theory.specs.Wins.{wins, wins_other}
pub use Rattle.krieg_game.specs.Chess.{chess}
pub use Rattle.krieg_game.specs.Keys.{Key, RootKey, key_cmp, key_lt, root_cmp, root_lt}
pub use Rattle.krieg_game.specs.Outset.{outset}
pub use Rattle.krieg_plan.specs.Nodes.{as_edges, as_other, edge_of, edge_step, node_step, tree_of}
pub use Rattle.krieg_plan.specs.Order.{are_ordered, are_ordered_roots, is_ascending, is_ordered, is_ordered_other, is_ordered_plan}
pub use Rattle.krieg_plan.specs.Plans.{plan_of}
pub use Rattle.krieg_plan.specs.Roots.{root_of}
pub use Rattle.krieg_plan.specs.Trees.{NodeTree, PlanTrees, edges_in, first_edge_in, first_root_in, plan_size}
pub use Rattle.krieg_plan.specs.declared.node.Edge.TheFolds.{fold-roll-Edge, fold-roll-Node, fold_out-Edge, fold_out-Node, map-Node}
pub use Rattle.krieg_plan.specs.declared.node.Edge.TheOpen.{Edge-F, Node-F}
pub use Rattle.krieg_plan.specs.declared.node.Edge.TheViews.{out-Edge, out-Node, roll-Edge, roll-Node}
pub use Rattle.krieg_plan.specs.declared.node.Node.{Node}
pub use Rattle.krieg_plan.specs.declared.plan.Root.{Root}

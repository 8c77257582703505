-- The trees that nodes mean.
use Rattle.std.specs.Prelude.{List, [], ◌∷◌, Option, Some, None, option_map}
use Rattle.krieg_board.specs.declared.men.Move.{Move}
use Rattle.krieg_theory.specs.Tree.{Try, Maybe, Nothing, Just, Edges, NoEdges, Edge as On}
use Rattle.krieg_game.specs.Keys.{Key}
use Rattle.krieg_plan.specs.Trees.{NodeTree}
use Rattle.krieg_plan.specs.declared.node.Node.{Node}
use Rattle.krieg_plan.specs.declared.node.Edge.{Edge}
use Rattle.krieg_plan.specs.declared.node.Edge.TheOpen.{Node-F, Edge-F}
use Rattle.krieg_plan.specs.declared.node.Edge.TheFolds.{fold-Node, fold-Edge}

-- the tree for the illegal case, if there is one
abbrev pub as_other : Option NodeTree → Maybe Move Key
as_other None = Nothing
as_other (Some n) = Just n

-- keys with their trees as edges
abbrev pub as_edges : List (Key × NodeTree) → Edges Move Key
as_edges [] = NoEdges
as_edges (e ∷ es) = On e.0 e.1 (as_edges es)

-- an edge, given what its node means
abbrev pub edge_step : Edge-F (Key × NodeTree) NodeTree → Key × NodeTree
edge_step e = ((e.own, e.reply), e.node.value)

-- a node, given what its edges and the node for the illegal case mean
abbrev pub node_step : Node-F (Key × NodeTree) NodeTree → NodeTree
node_step n = Try n.mv (as_other (option_map (λ b. b.value) n.no)) (as_edges n.edges.items)

-- what a node means
abbrev pub tree_of : Node → NodeTree
tree_of = fold-Node (Key × NodeTree) NodeTree edge_step node_step

-- what an edge means: its key, and the tree that it leads to
abbrev pub edge_of : Edge → Key × NodeTree
edge_of = fold-Edge (Key × NodeTree) NodeTree edge_step node_step

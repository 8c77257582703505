-- What a node means, part by part: as it is taken apart, and as it is made.
use Rattle.std.proofs.Common.{◌≡◌, Some, None, refl, ◌∙◌, map}
use Rattle.std.specs.Prelude.{option_map}
use Rattle.krieg_plan.proofs.Common.{Move, Try, Maybe, Edges, Key, NodeTree, tree_of, edge_of, as_other, as_edges, edge_step, node_step, Node, Node-F, Edge-F, out-Node, out-Edge, roll-Node, roll-Edge, map-Node, fold_out-Node, fold_out-Edge, fold-roll-Node, fold-roll-Edge}
use Rattle.krieg_plan.specs.declared.node.Edge.{Edge}

-- one layer of a node, with nodes below it
abbrev pub Layer : Type 0
Layer = Node-F Edge Node

-- what the node for the illegal case means
abbrev pub other_of : Layer → Maybe Move Key
other_of n = as_other (option_map (λ b. tree_of b.value) n.no)

-- what the edges mean
abbrev pub edges_of : Layer → Edges Move Key
edges_of n = as_edges (map edge_of n.edges.items)

abbrev pub layer_tree : Layer → NodeTree
layer_tree n = Try n.mv (other_of n) (edges_of n)

layer_step : (n : Layer) → node_step (map-Node Edge Node (Key × NodeTree) NodeTree edge_of tree_of n) ≡ layer_tree n
layer_step n = elim n.no as (λ o. node_step (map-Node Edge Node (Key × NodeTree) NodeTree edge_of tree_of (record n { no = o })) ≡ layer_tree (record n { no = o })) [ None ↦ refl | Some b ↦ refl ]

pub tree_out : (n : Node) → tree_of n ≡ layer_tree (out-Node n)
tree_out n = fold_out-Node (Key × NodeTree) NodeTree edge_step node_step n ∙ layer_step (out-Node n)

pub tree_rolled : (n : Layer) → tree_of (roll-Node n) ≡ layer_tree n
tree_rolled n = fold-roll-Node (Key × NodeTree) NodeTree edge_step node_step n ∙ layer_step n

-- an edge means its two words, and what its node means
pub edge_out : (e : Edge) → edge_of e ≡ (((out-Edge e).own, (out-Edge e).reply), tree_of (out-Edge e).node.value)
edge_out e = fold_out-Edge (Key × NodeTree) NodeTree edge_step node_step e

pub edge_rolled : (e : Edge-F Edge Node) → edge_of (roll-Edge e) ≡ ((e.own, e.reply), tree_of e.node.value)
edge_rolled e = fold-roll-Edge (Key × NodeTree) NodeTree edge_step node_step e

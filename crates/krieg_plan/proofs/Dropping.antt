-- A drop of a node ends: with each step, what is left grows lighter.
use Rattle.std.proofs.Common.{◌≡◌, ℕ, ◌+◌, ◌<◌, List, [], ◌∷◌, ◌++◌, ap, ◌∙◌, map, arith}
use Rattle.std.proofs.lemmas.List.{map-append}
use Rattle.krieg_plan.proofs.Common.{Move, Try, Maybe, Nothing, Just, size, size_other, size_edges, Key, NodeTree, tree_of, edge_of, as_edges, Node, out-Node, roll-Node}
use Rattle.krieg_plan.specs.declared.node.Edge.{Edge}
use Rattle.krieg_plan.proofs.NodeTrees.{Layer, other_of, edges_of, tree_out, tree_rolled}

abbrev mutual
  -- how many nodes are below edges: those of a node, and of the nodes that follow it over `no`
  pub hung : NodeTree → ℕ
  hung (Try t other es) = size_edges es + hung_other other

  pub hung_other : Maybe Move Key → ℕ
  hung_other Nothing = 0
  hung_other (Just n) = hung n

-- a node counts twice while it is below an edge, and once when it waits in the list over `no`
abbrev pub weight : NodeTree → ℕ
weight n = size n + hung n

size_edges_more : (es : List (Key × NodeTree)) (e : Key × NodeTree) → size_edges (as_edges (es ++ e ∷ [])) ≡ size_edges (as_edges es) + size e.1
size_edges_more [] e = omega arith
size_edges_more (d ∷ es) e = omega (arith, size_edges_more es e)

abbrev pub nodes_below : List Edge → ℕ
nodes_below es = size_edges (as_edges (map edge_of es))

-- one edge more
pub below_more : (all es : List Edge) (e : Edge) (n : Node) → all ≡ es ++ e ∷ [] → (edge_of e).1 ≡ tree_of n → nodes_below all ≡ nodes_below es + size (tree_of n)
below_more all es e n h k =
    ap nodes_below h
    ∙ ap (λ xs. size_edges (as_edges xs)) (map-append edge_of es (e ∷ []))
    ∙ size_edges_more (map edge_of es) (edge_of e)
    ∙ ap (λ t. nodes_below es + size t) k

-- The node of the last edge comes to the front: `k` is what it then is, with what followed `n` after it. What
-- followed it takes its place at the edge, and `r` is what the node `n` then is.
pub lighter : (n child : Node) (e : Edge) (es : List Edge) (k r : Layer) →
    (out-Node n).edges.items ≡ es ++ e ∷ [] → (edge_of e).1 ≡ tree_of child →
    other_of k ≡ other_of (out-Node n) → edges_of k ≡ edges_of (out-Node child) →
    other_of r ≡ Just (tree_of (roll-Node k)) → nodes_below r.edges.items ≡ nodes_below es + size_other (other_of (out-Node child)) →
    weight (tree_of (roll-Node r)) < weight (tree_of n)
lighter n child e es k r popped leads followed kept fronted put =
    omega (
      arith,
      put,
      below_more (out-Node n).edges.items es e child popped leads,
      ap size (tree_out n),
      ap hung (tree_out n),
      ap size (tree_out child),
      ap size (tree_rolled k),
      ap hung (tree_rolled k),
      ap size (tree_rolled r),
      ap hung (tree_rolled r),
      ap size_other followed,
      ap hung_other followed,
      ap size_edges kept,
      ap size_other fronted,
      ap hung_other fronted,
    )

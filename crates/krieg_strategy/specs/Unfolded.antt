-- The plan that a strategy unfolds to: the parts that several nodes lead to are written out at each.
use Rattle.std.specs.Prelude.{ℕ, List, [], ◌∷◌, ◌++◌, Option, Some, None, slice_get}
use Rattle.krieg_theory.specs.Tree.{Tree, Try, Maybe, Nothing, Just, Edges, NoEdges, Edge}
use Rattle.krieg_strategy.specs.Nodes.{Node}

module _ {M K : Type 0} where
  -- a tree, or none
  abbrev pub as_maybe : Option (Tree M K) → Maybe M K
  as_maybe None = Nothing
  as_maybe (Some n) = Just n

  -- the tree of the node with the number, where there is a number
  abbrev pub led_to : List (Tree M K) → Option ℕ → Maybe M K
  led_to trees None = Nothing
  led_to trees (Some i) = as_maybe (slice_get trees i)

  -- an edge in front of others, where there is a tree for it
  abbrev pub edge_to : K → Maybe M K → Edges M K → Edges M K
  edge_to key Nothing es = es
  edge_to key (Just n) es = Edge key n es

  -- edges with the trees that they lead to
  abbrev pub edges_on : List (Tree M K) → List (K × ℕ) → Edges M K
  edges_on trees [] = NoEdges
  edges_on trees (e ∷ es) = edge_to e.0 (led_to trees (Some e.1)) (edges_on trees es)

  -- the tree of a node, on those of the nodes that it leads to
  abbrev pub tree_on : List (Tree M K) → Node M K → Tree M K
  tree_on trees n = Try n.mv (led_to trees n.no) (edges_on trees n.edges)

  -- the trees of the nodes that follow are made one after another, each on all that stand before it
  abbrev pub trees_on : List (Tree M K) → List (Node M K) → List (Tree M K)
  trees_on trees [] = trees
  trees_on trees (n ∷ ns) = trees_on (trees ++ tree_on trees n ∷ []) ns

  -- the trees of nodes, in their order
  unfoldable pub trees_of : List (Node M K) → List (Tree M K)
  trees_of ns = trees_on [] ns

  module _ {R : Type 0} where
    -- a root in front of others, where there is a tree for it
    abbrev pub root_to : R → Maybe M K → List (R × Tree M K) → List (R × Tree M K)
    root_to key Nothing rs = rs
    root_to key (Just n) rs = (key, n) ∷ rs

    -- roots with the trees that they lead to
    abbrev pub roots_on : List (Tree M K) → List (R × ℕ) → List (R × Tree M K)
    roots_on trees [] = []
    roots_on trees (r ∷ rs) = root_to r.0 (led_to trees (Some r.1)) (roots_on trees rs)

    -- the plan of a strategy: its roots with their trees
    abbrev pub unfold_plan : List (Node M K) → List (R × ℕ) → List (R × Tree M K)
    unfold_plan ns rs = roots_on (trees_of ns) rs

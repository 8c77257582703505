-- Nodes and plans whose keys ascend, here and everywhere below.
use Rattle.std.specs.Prelude.{Bool, true, ◌&&◌, List, [], ◌∷◌, map}
use Rattle.krieg_board.specs.declared.men.Move.{Move}
use Rattle.krieg_theory.specs.Tree.{Try, Maybe, Nothing, Just, Edges, NoEdges, Edge}
use Rattle.krieg_theory.specs.Canonical.{edge_keys}
use Rattle.krieg_game.specs.Keys.{Key, key_lt, root_lt}
use Rattle.krieg_plan.specs.Trees.{NodeTree, PlanTrees}

-- each stands before the next one in the order
abbrev pub is_ascending : {K : Type 0} → (K → K → Bool) → List K → Bool
is_ascending lt [] = true
is_ascending lt (x ∷ []) = true
is_ascending lt (x ∷ y ∷ zs) = lt x y && is_ascending lt (y ∷ zs)

abbrev mutual
  -- the keys of a node's edges ascend, and so do those of every node below it
  pub is_ordered : NodeTree → Bool
  is_ordered (Try t other es) = is_ascending key_lt (edge_keys es) && (is_ordered_other other && are_ordered es)

  -- the tree for the illegal case is ordered, if there is one
  pub is_ordered_other : Maybe Move Key → Bool
  is_ordered_other Nothing = true
  is_ordered_other (Just n) = is_ordered n

  -- the trees behind these edges are ordered
  pub are_ordered : Edges Move Key → Bool
  are_ordered NoEdges = true
  are_ordered (Edge key n es) = is_ordered n && are_ordered es

-- the trees of these roots are ordered
abbrev pub are_ordered_roots : PlanTrees → Bool
are_ordered_roots [] = true
are_ordered_roots (r ∷ rs) = is_ordered r.1 && are_ordered_roots rs

-- the keys of the roots ascend, and so do those of every node
abbrev pub is_ordered_plan : PlanTrees → Bool
is_ordered_plan plan = is_ascending root_lt (map (λ r. r.0) plan) && are_ordered_roots plan

-- What a player has decided in advance: a tree of tries.
-- M are the moves. K are the keys: what the player hears between two own turns.
use Rattle.std.specs.Prelude.{ℕ, ◌+◌, Bool, max, List, [], ◌∷◌, if◌then◌else◌}
use Rattle.krieg_theory.specs.Sets.{same}

mutual
  -- a try; where to go on if the umpire calls it illegal; and where to go on by what is heard if it is legal
  pub data Tree (M K : Type 0) : Type 0 where
    Try : M → Maybe M K → Edges M K → Tree M K

  -- a tree, or none
  pub data Maybe (M K : Type 0) : Type 0 where
    Nothing : Maybe M K
    Just : Tree M K → Maybe M K

  -- trees by what is heard, in order
  pub data Edges (M K : Type 0) : Type 0 where
    NoEdges : Edges M K
    Edge : K → Tree M K → Edges M K → Edges M K

-- the node at the first edge with the key, by the order of keys
abbrev pub first_edge : {M K : Type 0} → (K → K → Bool) → Edges M K → K → Maybe M K
first_edge lt NoEdges key = Nothing
first_edge lt (Edge key' n es) key = if same lt key' key then Just n else first_edge lt es key

-- the tree at the first root with the key
abbrev pub first_root : {R M K : Type 0} → (R → R → Bool) → List (R × Tree M K) → R → Maybe M K
first_root lt [] key = Nothing
first_root lt (r ∷ rs) key = if same lt r.0 key then Just r.1 else first_root lt rs key

abbrev mutual
  -- how many nodes there are
  pub size : {M K : Type 0} → Tree M K → ℕ
  size (Try t other es) = 1 + (size_other other + size_edges es)

  -- how many nodes the tree for the illegal case has
  pub size_other : {M K : Type 0} → Maybe M K → ℕ
  size_other Nothing = 0
  size_other (Just n) = size n

  -- how many nodes stand behind these edges
  pub size_edges : {M K : Type 0} → Edges M K → ℕ
  size_edges NoEdges = 0
  size_edges (Edge key n es) = size n + size_edges es

abbrev mutual
  -- how many nodes the longest path has
  pub depth : {M K : Type 0} → Tree M K → ℕ
  depth (Try t other es) = 1 + max (depth_other other) (depth_edges es)

  -- how many nodes stand on the longest path of the tree for the illegal case
  pub depth_other : {M K : Type 0} → Maybe M K → ℕ
  depth_other Nothing = 0
  depth_other (Just n) = depth n

  -- how many nodes stand on the longest path behind these edges
  pub depth_edges : {M K : Type 0} → Edges M K → ℕ
  depth_edges NoEdges = 0
  depth_edges (Edge key n es) = max (depth n) (depth_edges es)

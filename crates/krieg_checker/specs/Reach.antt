-- Which positions reach which nodes of a plan.
use Rattle.std.specs.Prelude.{List, [], ◌∷◌, ◌++◌, map, flat_map, if◌then◌else◌}
use Rattle.krieg_theory.specs.Sets.{In, same}
use Rattle.krieg_theory.specs.Tree.{Tree, Try, Maybe, Nothing, Just, Edges, NoEdges, Edge, first_edge, first_root}
use Rattle.krieg_theory.specs.Game.{Game}
use Rattle.krieg_theory.specs.Split.{refused, keys, class}
use Rattle.krieg_theory.specs.Plans.{Outset, Plan, all_starts, openings, opening_set}

-- How one comes to a node: by the root for what is heard first; from a node to the one for the illegal case; or
-- along the first edge with a key.
pub data Step (R K : Type 0) : Type 0 where
  From : R → Step R K
  No : Step R K
  On : K → Step R K

module _ (G : Game) (O : Outset G) where
  -- all steps to a node, the last one first: a node is told by its path
  abbrev pub Path : Type 0
  Path = List (Step O.Root G.Key)

  -- a path, the node at its end, and a position that reaches it
  abbrev pub Pair : Type 0
  Pair = Path × Tree G.Move G.Key × G.Position

  -- a position at a node, where there is one
  abbrev pub pair_at : Path → Maybe G.Move G.Key → G.Position → List Pair
  pair_at path Nothing p = []
  pair_at path (Just n) p = (path, n, p) ∷ []

  -- what comes first: each start of a listed position, at the first root with its key
  abbrev pub first_pairs : Plan G O → List G.Position → List Pair
  first_pairs plan S = flat_map (λ s. pair_at (From s.0 ∷ []) (first_root O.root_lt plan s.0) s.1) (all_starts G O S)

  -- What comes next: where the try is illegal, the same position at the node for that; where it is legal, the position
  -- after each reply, at the first edge with what is heard.
  abbrev pub next_at : Path → Tree G.Move G.Key → G.Position → List Pair
  next_at path (Try t other es) p = if G.legal p t then flat_map (λ o. pair_at (On o.0 ∷ path) (first_edge G.key_lt es o.0) o.1) (G.outcomes p t) else pair_at (No ∷ path) other p

  -- the pairs that come next behind one
  abbrev pub next_pairs : Pair → List Pair
  next_pairs x = next_at x.0 x.1 x.2

  -- a list of pairs that has what comes first, and with each pair what comes next
  pub record IsClosed (plan : Plan G O) (S : List G.Position) (R : List Pair) : Type 0 where
    pub first : (x : Pair) → In x (first_pairs plan S) → In x R
    pub next : (x y : Pair) → In x R → In y (next_pairs x) → In y R

  abbrev mutual
    -- Each member of a set that stands at a node reaches it. Those that refuse its try reach the node for the illegal
    -- case. Of the others come the classes, each of which reaches the node at the first edge with its key.
    pub reached : Path → Tree G.Move G.Key → List G.Position → List Pair
    reached path (Try t other es) B =
        map (λ p. (path, Try t other es, p)) B ++ (reached_other (No ∷ path) other (refused G B t) ++ flat_map (λ key. reached_at (On key ∷ path) es key (class G B t key)) (keys G B t))

    -- what is reached in the tree for the illegal case
    pub reached_other : Path → Maybe G.Move G.Key → List G.Position → List Pair
    reached_other path Nothing B = []
    reached_other path (Just n) B = reached path n B

    -- what is reached behind the edge of that key
    pub reached_at : Path → Edges G.Move G.Key → G.Key → List G.Position → List Pair
    reached_at path NoEdges key B = []
    reached_at path (Edge key' n es) key B = if same G.key_lt key' key then reached path n B else reached_at path es key B

  -- each opening set reaches the first root with its key
  abbrev pub reached_from : Plan G O → List G.Position → List Pair
  reached_from plan S = flat_map (λ key. reached_other (From key ∷ []) (first_root O.root_lt plan key) (opening_set G O S key)) (openings G O S)

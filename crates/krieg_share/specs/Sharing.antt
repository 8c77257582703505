-- A plan as a strategy: each set of positions that is reached has one node.
use Rattle.std.specs.Prelude.{◌≡◌, ℕ, zero, suc, Bool, List, [], ◌∷◌, ◌++◌, map, Option, Some, None, length, slice_get, if◌then◌else◌}
use Rattle.std.specs.List.{list_any}
use Rattle.krieg_theory.specs.Sets.{is_nil}
use Rattle.krieg_theory.specs.Tree.{Tree, Try, Maybe, Nothing, Just, Edges, NoEdges, Edge}
use Rattle.krieg_theory.specs.Game.{Game}
use Rattle.krieg_theory.specs.Split.{refused, class}
use Rattle.krieg_theory.specs.Canonical.{edge_keys, IsCanon}
use Rattle.krieg_theory.specs.Plans.{Outset, Plan, opening_set}
use Rattle.krieg_costs.specs.Sums.{IsOnce, same_list}
use Rattle.krieg_strategy.specs.Nodes.{Node}
use Rattle.krieg_strategy.specs.WellFormed.{AreBelow}
use Rattle.krieg_strategy.specs.Unfolded.{trees_of}

module _ (G : Game) where
  -- some sets of positions, and a node for each, in the same order
  pub record Shared : Type 0 where
    pub sets : List (List G.Position)
    pub nodes : List (Node G.Move G.Key)

  -- nothing has a node yet
  abbrev pub nothing_shared : Shared
  nothing_shared = record { sets = []; nodes = [] }

  -- the set has a node
  abbrev pub has_node : List G.Position → List (List G.Position) → Bool
  has_node B Xs = list_any (λ X. same_list G.position_lt X B) Xs

  -- the number of that node: the place of the set
  abbrev pub number_of : List G.Position → List (List G.Position) → ℕ
  number_of B [] = zero
  number_of B (X ∷ Xs) = if same_list G.position_lt X B then zero else suc (number_of B Xs)

  -- the same, where the set has one
  abbrev pub node_number : List G.Position → List (List G.Position) → Option ℕ
  node_number B Xs = if has_node B Xs then Some (number_of B Xs) else None

  -- where to go on if the try is called illegal: to the node of the members that refuse it, if there are any
  abbrev pub refused_number : List G.Position → List (List G.Position) → Option ℕ
  refused_number R Xs = if is_nil R then None else Some (number_of R Xs)

  -- a set's node, by its try and what may be heard: it leads to the nodes of the set's parts
  abbrev pub node_for : List (List G.Position) → List G.Position → G.Move → List G.Key → Node G.Move G.Key
  node_for Xs B t ks = record {
    mv = t;
    no = refused_number (refused G B t) Xs;
    edges = map (λ key. (key, number_of (class G B t key) Xs)) ks;
  }

  -- the set gets its node behind all that stand
  abbrev pub with_own : List G.Position → G.Move → List G.Key → Shared → Shared
  with_own B t ks s = record { sets = s.sets ++ B ∷ []; nodes = s.nodes ++ node_for s.sets B t ks ∷ [] }

  abbrev mutual
    -- The tree is played from the set. Where the set has a node, that is all. Else nodes come for the members that refuse
    -- the try, then for what may be heard, in order, and then the set's own.
    pub share : Tree G.Move G.Key → List G.Position → Shared → Shared
    share (Try t other es) B s =
        if has_node B s.sets then s else with_own B t (edge_keys es) (share_edges es B t (share_other other (refused G B t) s))

    -- the same for the members that refuse a try
    pub share_other : Maybe G.Move G.Key → List G.Position → Shared → Shared
    share_other Nothing R s = s
    share_other (Just n) R s = share n R s

    -- the same for each thing that may be heard after a try
    pub share_edges : Edges G.Move G.Key → List G.Position → G.Move → Shared → Shared
    share_edges NoEdges B t s = s
    share_edges (Edge key n es) B t s = share_edges es B t (share n (class G B t key) s)

  -- each set has one node, which leads to lower numbers, and whose tree is the canonical one
  pub record AreShared (s : Shared) : Type 0 where
    pub as_many : length s.nodes ≡ length s.sets
    pub once : IsOnce s.sets
    pub below : AreBelow s.nodes
    pub canonical : (i : ℕ) (X : List G.Position) → slice_get s.sets i ≡ Some X →
        (n : Tree G.Move G.Key) × IsCanon G n X × (slice_get (trees_of s.nodes) i ≡ Some n)

module _ (G : Game) (O : Outset G) where
  -- the same for each root of a plan for a list of positions
  abbrev pub share_roots : Plan G O → List G.Position → Shared G → Shared G
  share_roots [] S s = s
  share_roots (r ∷ rs) S s = share_roots rs S (share G r.1 (opening_set G O S r.0) s)

  -- the nodes of a plan
  abbrev pub shared : Plan G O → List G.Position → Shared G
  shared plan S = share_roots plan S (nothing_shared G)

  -- and its roots, each with the number of its node
  abbrev pub shared_roots : Plan G O → List G.Position → List (O.Root × ℕ)
  shared_roots plan S = map (λ r. (r.0, number_of G (opening_set G O S r.0) (shared plan S).sets)) plan

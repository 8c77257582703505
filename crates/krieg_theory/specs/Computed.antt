-- The canonical node of a set, as it is computed.
use Rattle.std.specs.Prelude.{ℕ, zero, suc, List, [], ◌∷◌, length, Option, Some, None, if◌then◌else◌}
use Rattle.krieg_theory.specs.Sets.{is_nil}
use Rattle.krieg_theory.specs.Tree.{Try, Maybe, Nothing, Just, Edges, NoEdges, Edge}
use Rattle.krieg_theory.specs.Game.{Game}
use Rattle.krieg_theory.specs.Split.{refused, keys, class}
use Rattle.krieg_theory.specs.Can.{can, first_try}

module _ (G : Game) where
  -- an edge, where there is a node for it
  abbrev pub edge_with : G.Key → Maybe G.Move G.Key → Edges G.Move G.Key → Edges G.Move G.Key
  edge_with key Nothing es = es
  edge_with key (Just n) es = Edge key n es

  -- an edge for each key that has a node
  abbrev pub edges_of : List G.Key → (G.Key → Maybe G.Move G.Key) → Edges G.Move G.Key
  edges_of [] f = NoEdges
  edges_of (key ∷ ks) f = edge_with key (f key) (edges_of ks f)

  -- a node by its try, where there is one
  abbrev pub node_of : Option G.Move → (G.Move → Maybe G.Move G.Key) → (G.Move → Edges G.Move G.Key) → Maybe G.Move G.Key
  node_of None o e = Nothing
  node_of (Some t) o e = Just (Try t (o t) (e t))

  -- the refused part's node: none where it is empty, and else that of its least number
  abbrev pub other_of : ℕ → (List G.Position → Maybe G.Move G.Key) → (List G.Position → Maybe G.Move G.Key) → List G.Position → Maybe G.Move G.Key
  other_of j less here R = if is_nil R then Nothing else if can G j R then less R else here R

  -- the node of a set of at most n members that can be won within j + 1 and not within j
  abbrev pub newly : ℕ → (List G.Position → Maybe G.Move G.Key) → ℕ → List G.Position → Maybe G.Move G.Key
  newly j less zero B = Nothing
  newly j less (suc n) B =
      node_of (first_try G (suc j) B) (λ t. other_of j less (newly j less n) (refused G B t)) (λ t. edges_of (keys G B t) (λ key. less (class G B t key)))

  -- the node of a set that can be won within j
  abbrev pub canon : ℕ → List G.Position → Maybe G.Move G.Key
  canon zero B = Nothing
  canon (suc j) B = if can G j B then canon j B else newly j (canon j) (length B) B

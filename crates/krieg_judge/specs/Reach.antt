-- Which positions reach which nodes of a strategy.
use Rattle.std.specs.Prelude.{ℕ, zero, suc, Bool, ◌&&◌, ◌||◌, ◌==◌, nat_lt, List, [], ◌∷◌, ◌++◌, length, flat_map, Option, Some, None, slice_get, if◌then◌else◌}
use Rattle.krieg_theory.specs.Sets.{In, as_set}
use Rattle.krieg_theory.specs.Game.{Game}
use Rattle.krieg_theory.specs.Plans.{Outset}
use Rattle.krieg_strategy.specs.Nodes.{Node, first_to}

module _ (G : Game) where
  -- a node by its number, and a position
  abbrev pub Pair : Type 0
  Pair = ℕ × G.Position

  -- a position at the node with the number, where there is a number
  abbrev pub pair_at : Option ℕ → G.Position → List Pair
  pair_at None p = []
  pair_at (Some i) p = (i, p) ∷ []

  -- What comes next: where the try is illegal, the same position at the node for that; where it is legal, the position
  -- after each reply, at the first edge with what is heard.
  abbrev pub next_at : Node G.Move G.Key → G.Position → List Pair
  next_at n p = if G.legal p n.mv then flat_map (λ o. pair_at (first_to G.key_lt n.edges o.0) o.1) (G.outcomes p n.mv) else pair_at n.no p

  -- the same where there is a node
  abbrev pub next_of : Option (Node G.Move G.Key) → G.Position → List Pair
  next_of None p = []
  next_of (Some n) p = next_at n p

  -- the order of pairs: by the node, then by the position
  abbrev pub pair_lt : Pair → Pair → Bool
  pair_lt x y = nat_lt x.0 y.0 || ((x.0 == y.0) && G.position_lt x.1 y.1)

module _ (G : Game) (O : Outset G) (nodes : List (Node G.Move G.Key)) (roots : List (O.Root × ℕ)) where
  -- the pairs that come next behind one
  abbrev pub next_pairs : Pair G → List (Pair G)
  next_pairs x = next_of G (slice_get nodes x.0) x.1

  -- what comes first of a listed position: each start, at the first root with its key
  abbrev pub first_at : G.Position → List (Pair G)
  first_at p = flat_map (λ s. pair_at G (first_to O.root_lt roots s.0) s.1) (O.starts p)

  -- what comes first of all listed positions
  abbrev pub first_pairs : List G.Position → List (Pair G)
  first_pairs S = flat_map first_at S

  -- a list of pairs that has what comes first, and with each pair what comes next
  pub record IsClosed (S : List G.Position) (R : List (Pair G)) : Type 0 where
    pub first : (x : Pair G) → In x (first_pairs S) → In x R
    pub next : (x y : Pair G) → In x R → In y (next_pairs x) → In y R

  -- the pairs that are reached within so many steps, each once
  abbrev pub reached_within : ℕ → List G.Position → List (Pair G)
  reached_within zero S = as_set (pair_lt G) (first_pairs S)
  reached_within (suc n) S = as_set (pair_lt G) (first_pairs S ++ flat_map next_pairs (reached_within n S))

  -- all pairs that are reached: with each step the number of the node falls
  unfoldable pub reached : List G.Position → List (Pair G)
  reached S = reached_within (length nodes) S

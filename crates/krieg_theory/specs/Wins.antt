-- What it is to win one position by a tree: no sets, and every reply.
use Rattle.std.specs.Prelude.{◌≡◌, ℕ, zero, suc, Bool, true, false, not, ◌&&◌, List, if◌then◌else◌}
use Rattle.std.specs.List.{list_all}
use Rattle.krieg_theory.specs.Sets.{In, same}
use Rattle.krieg_theory.specs.Tree.{Tree, Try, Maybe, Nothing, Just, Edges, NoEdges, Edge}
use Rattle.krieg_theory.specs.Game.{Game}

module _ (G : Game) where
  abbrev mutual
    -- The tree wins the position within k own moves. A legal try mates at once, which is to leave no reply and
    -- not to stalemate, or the tree goes on to win after every reply. An illegal try is no move: it costs none.
    pub wins : Tree G.Move G.Key → G.Position → ℕ → Bool
    wins (Try t other es) p zero = false
    wins (Try t other es) p (suc k) =
        if G.legal p t then not (G.stalemates p t) && list_all (λ o. wins_at es o.0 o.1 k) (G.outcomes p t) else wins_other other p (suc k)

    -- the node for the illegal case is there, and wins
    pub wins_other : Maybe G.Move G.Key → G.Position → ℕ → Bool
    wins_other Nothing p k = false
    wins_other (Just n) p k = wins n p k

    -- there is an edge with the key, and the node at the first one wins
    pub wins_at : Edges G.Move G.Key → G.Key → G.Position → ℕ → Bool
    wins_at NoEdges key p k = false
    wins_at (Edge key' n es) key p k = if same G.key_lt key' key then wins n p k else wins_at es key p k

  -- the tree wins every member of the set
  abbrev pub WinsAll : Tree G.Move G.Key → List G.Position → ℕ → Type 0
  WinsAll n B k = (p : G.Position) → In p B → wins n p k ≡ true

-- What the walk of a plan takes, node by node, set by set.
use Rattle.std.specs.Prelude.{ℕ, ◌+◌, Bool, List, if◌then◌else◌}
use Rattle.std.specs.List.{list_all}
use Rattle.krieg_board.specs.Pos.{Pos}
use Rattle.krieg_board.specs.declared.men.Move.{Move}
use Rattle.krieg_theory.specs.Sets.{same}
use Rattle.krieg_theory.specs.Tree.{Tree, Try, Maybe, Nothing, Just, Edges, NoEdges, Edge}
use Rattle.krieg_theory.specs.Game.{Game}
use Rattle.krieg_theory.specs.Wins.{wins_at}
use Rattle.krieg_theory.specs.Split.{refused, keys, class}
use Rattle.krieg_words.specs.declared.dialects.Dialect.{Dialect}
use Rattle.krieg_costs.specs.Sums.{total}
use Rattle.krieg_costs.specs.Cost.{made}
use Rattle.krieg_game.specs.Keys.{Key}
use Rattle.krieg_game.specs.Chess.{chess}
use Rattle.krieg_plan.specs.Trees.{NodeTree}

module _ (G : Game) where
  abbrev mutual
    -- a node that a set reaches, and all below it
    pub node_cost : Tree G.Move G.Key → List G.Position → ℕ
    node_cost (Try t other es) B = made G B t + (other_cost other (refused G B t) + total (λ key. edge_cost es key (class G B t key)) (keys G B t))

    -- the node for the illegal case, where there is one
    pub other_cost : Maybe G.Move G.Key → List G.Position → ℕ
    other_cost Nothing B = 0
    other_cost (Just n) B = node_cost n B

    -- the node at the first edge with the key, where there is one
    pub edge_cost : Edges G.Move G.Key → G.Key → List G.Position → ℕ
    edge_cost NoEdges key B = 0
    edge_cost (Edge key' n es) key B = if same G.key_lt key' key then node_cost n B else edge_cost es key B

-- the try of a node
abbrev pub try_in : NodeTree → Move
try_in (Try t other es) = t

-- the node for the illegal case
abbrev pub other_in : NodeTree → Maybe Move Key
other_in (Try t other es) = other

-- each class is won at the first edge with its key
abbrev pub classes_won : Dialect → Edges Move Key → List (Key × List Pos) → ℕ → Bool
classes_won d es cs k = list_all (λ c. list_all (λ p. wins_at (chess d) es c.0 p k) c.1) cs

abbrev pub classes_cost : Dialect → Edges Move Key → List (Key × List Pos) → ℕ
classes_cost d es cs = total (λ c. edge_cost (chess d) es c.0 c.1) cs

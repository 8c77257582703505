-- Nodes that are built of stored results.
use Rattle.std.specs.Prelude.{◌≡◌, ℕ, ◌+◌, ◌<◌, ◌≤◌, List, [], ◌∷◌, Result, Ok, Err, ◌⊎◌, ⊤}
use Rattle.krieg_board.specs.Pos.{Pos}
use Rattle.krieg_board.specs.declared.men.Move.{Move}
use Rattle.krieg_words.specs.declared.dialects.Dialect.{Dialect}
use Rattle.krieg_theory.specs.Tree.{Maybe, Nothing, Just, Edges, NoEdges}
use Rattle.krieg_theory.specs.Computed.{edge_with, canon}
use Rattle.krieg_game.specs.Keys.{Key, RootKey}
use Rattle.krieg_game.specs.Chess.{chess}
use Rattle.krieg_plan.specs.Trees.{PlanTrees}
use Rattle.krieg_table.specs.SetRows.{SetRows}
use Rattle.krieg_search.specs.declared.stop.SearchStop.{SearchStop}
use Rattle.krieg_search.specs.declared.stop.SearchStop.TheVariants.{Spent, Large, NoMemory}
use Rattle.krieg_search.specs.Openings.{AddsSets}

-- What is built, with so many nodes and so many on its longest path: the nodes are taken from those that were left, and
-- only sets have come to the table. Or it has more nodes than were left, or more than `deep` on a path.
abbrev pub Builds : {A : Type 0} → Result A SearchStop → (A → Type 0) → ℕ → ℕ → SetRows → SetRows → ℕ → ℕ → ℕ → Type 0
Builds (Ok x) holds nodes deepest T T' had has deep = holds x × (has + nodes ≡ had) × (deepest ≤ deep) × AddsSets T T'
Builds (Err Spent) holds nodes deepest T T' had has deep = ⊥
Builds (Err Large) holds nodes deepest T T' had has deep = (had < nodes) ⊎ (deep < deepest)
Builds (Err NoMemory) holds nodes deepest T T' had has deep = ⊤

-- a root, where there is a tree for it
abbrev pub with_root : RootKey → Maybe Move Key → PlanTrees → PlanTrees
with_root key Nothing rs = rs
with_root key (Just n) rs = (key, n) ∷ rs

module _ (d : Dialect) where
  -- an edge to the canonical node of each class that has one
  abbrev pub edges_for : ℕ → List (Key × List Pos) → Edges Move Key
  edges_for j [] = NoEdges
  edges_for j (c ∷ cs) = edge_with (chess d) c.0 (canon (chess d) j c.1) (edges_for j cs)

  -- a root with the canonical node of each opening set that has one
  abbrev pub roots_for : ℕ → List (RootKey × List Pos) → PlanTrees
  roots_for j [] = []
  roots_for j (c ∷ cs) = with_root c.0 (canon (chess d) j c.1) (roots_for j cs)

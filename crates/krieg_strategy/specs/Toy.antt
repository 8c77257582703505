-- A strategy for the small game of krieg_theory.
use Rattle.std.specs.Prelude.{ℕ, List, [], ◌∷◌, Some, None}
use Rattle.krieg_theory.specs.Tree.{Tree, Try, Nothing, Just, NoEdges}
use Rattle.krieg_strategy.specs.Nodes.{Node}

-- three nodes, of which the last leads to the one before it twice
abbrev pub nodes : List (Node ℕ ℕ)
nodes =
    record { mv = 1; no = None; edges = [] }
    ∷ record { mv = 0; no = Some 0; edges = [] }
    ∷ record { mv = 0; no = None; edges = (0, 1) ∷ (1, 1) ∷ [] }
    ∷ []

-- the tree of the node 1
abbrev pub either : Tree ℕ ℕ
either = Try 0 (Just (Try 1 Nothing NoEdges)) NoEdges

-- a node that leads to itself, and to what is not there
abbrev pub astray : List (Node ℕ ℕ)
astray = record { mv = 0; no = Some 0; edges = (0, 7) ∷ [] } ∷ []

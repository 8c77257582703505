-- A strategy for the small game of krieg_theory.
use Rattle.std.specs.Prelude.{ℕ, List, [], ◌∷◌, Some, None}
use Rattle.krieg_strategy.specs.Nodes.{Node}

-- three nodes, of which the last leads to the one before it three times
abbrev pub nodes : List (Node ℕ ℕ)
nodes =
    record { mv = 1; no = None; edges = [] }
    ∷ record { mv = 0; no = Some 0; edges = [] }
    ∷ record { mv = 0; no = Some 1; edges = (0, 1) ∷ (1, 1) ∷ [] }
    ∷ []

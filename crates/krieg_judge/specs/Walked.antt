-- What is reached, pair by pair: what a pair takes, and what takes the place of its demand.
use Rattle.std.specs.Prelude.{ℕ, List}
use Rattle.krieg_board.specs.Pos.{Pos}
use Rattle.krieg_game.specs.Chess.{chess}
use Rattle.krieg_game.specs.Outset.{outset}
use Rattle.krieg_strategy.specs.Unfolded.{trees_of}
use Rattle.krieg_strategy.specs.declared.strategy.Strategy.{Strategy}
use Rattle.krieg_judge.specs.Reach.{next_pairs, reached}
use Rattle.krieg_judge.specs.JudgeCost.{pair_cost}
use Rattle.krieg_judge.specs.Demands.{Adds, held}
use Rattle.krieg_judge.specs.Started.{root_links}
use Rattle.krieg_judge.specs.declared.findings.Findings.{Findings}

-- what a pair takes
abbrev pub cost_in : Strategy → ℕ × Pos → ℕ
cost_in s x = pair_cost (chess s.dialect) (outset s.dialect s.side) s.nodes (root_links s) x

-- all pairs that are reached from the positions of a list
abbrev pub reached_in : Strategy → List Pos → List (ℕ × Pos)
reached_in s S = reached (chess s.dialect) (outset s.dialect s.side) s.nodes (root_links s) S

-- its demand is to hold, and what comes next waits
abbrev pub PairAdds : Strategy → (ℕ × Pos) × ℕ → Findings → Findings → Type 0
PairAdds s x old new =
    Adds s.dialect (trees_of s.nodes) old new (λ k. held s.dialect (trees_of s.nodes) k x)
    (next_pairs (chess s.dialect) (outset s.dialect s.side) s.nodes (root_links s) x.0)

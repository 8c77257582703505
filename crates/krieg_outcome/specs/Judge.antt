-- What `judge` answers to a strategy: the worst case of the plan that it unfolds to, or why it has none.
use Rattle.std.specs.Prelude.{◌≡◌, ℕ, ◌<◌, ◌≤◌, false, List, Result, Ok, Err}
use Rattle.krieg_text.specs.Lines.{lines}
use Rattle.krieg_text.specs.Reading.{whole}
use Rattle.krieg_theory.specs.Plans.{IsWorst}
use Rattle.krieg_game.specs.Chess.{chess}
use Rattle.krieg_game.specs.Outset.{outset}
use Rattle.krieg_plan.specs.Trees.{PlanTrees}
use Rattle.krieg_strategy.specs.Unfolded.{unfold_plan}
use Rattle.krieg_strategyfile.specs.Strategies.{StrategyState}
use Rattle.krieg_strategyfile.specs.StrategyFormat.{strategy_at}
use Rattle.krieg_judge.specs.JudgeCost as cost
use Rattle.krieg_outcome.specs.Solve.{mates_all}
use Rattle.krieg_outcome.specs.Check.{worst_text}
use Rattle.krieg_outcome.specs.Refusal.{OfText}
use Rattle.krieg_outcome.specs.declared.refusal.Refusal.{Refusal}
use Rattle.krieg_outcome.specs.declared.refusal.Refusal.TheVariants.{BudgetSpent, PlanFails}

-- the plan that a strategy unfolds to, which no code makes
abbrev pub unfolded : StrategyState → PlanTrees
unfolded s = unfold_plan s.nodes s.roots

-- what the judgement of a strategy takes
abbrev pub judge_cost : StrategyState → ℕ
judge_cost s = cost.judge_cost (chess s.dialect) (outset s.dialect s.side) s.nodes s.roots s.list

-- the worst case of that plan over the listed positions, which is at most the number that the file claims
abbrev pub IsWorstOf : StrategyState → ℕ → Type 0
IsWorstOf s w = IsWorst (chess s.dialect) (outset s.dialect s.side) (unfolded s) s.list w × (w ≤ s.worst)

-- The answer is that worst case. The plan fails just where it does not mate all listed positions within the number that the file
-- claims, and the budget is spent just where it is less than the judgement takes.
abbrev pub JudgedSo : ℕ → StrategyState → Result (List ℕ) Refusal → Type 0
JudgedSo budget s (Ok answer) = (judge_cost s ≤ budget) × (w : ℕ) × IsWorstOf s w × (answer ≡ worst_text w)
JudgedSo budget s (Err PlanFails) = (judge_cost s ≤ budget) × (mates_all s.dialect s.side s.list (unfolded s) s.worst ≡ false)
JudgedSo budget s (Err BudgetSpent) = budget < judge_cost s
JudgedSo budget s (Err _) = ⊥

-- the same of a text that may spell a strategy
abbrev pub Judges : ℕ → List ℕ → Result (List ℕ) Refusal → Type 0
Judges budget text outcome = OfText (whole strategy_at (lines text)) (JudgedSo budget) outcome

-- What `check` answers to a plan file: its worst case, or why it has none.
use Rattle.std.specs.Prelude.{◌≡◌, ℕ, ◌<◌, ◌≤◌, false, List, [], ◌∷◌, Result, Ok, Err, codes}
use Rattle.krieg_text.specs.Decimals.{number_text}
use Rattle.krieg_text.specs.Lines.{lines}
use Rattle.krieg_text.specs.Reading.{whole}
use Rattle.krieg_text.specs.Writing.{Pieces, put_lines}
use Rattle.krieg_theory.specs.Plans.{mates, IsWorst}
use Rattle.krieg_game.specs.Chess.{chess}
use Rattle.krieg_game.specs.Outset.{outset}
use Rattle.krieg_planfile.specs.PlanFiles.{PlanState}
use Rattle.krieg_planfile.specs.PlanReading.{plan_at}
use Rattle.krieg_checker.specs.CheckCost as cost
use Rattle.krieg_outcome.specs.Refusal.{OfText}
use Rattle.krieg_outcome.specs.declared.refusal.Refusal.{Refusal}
use Rattle.krieg_outcome.specs.declared.refusal.Refusal.TheVariants.{BudgetSpent, PlanFails}

-- the line of a worst case
abbrev pub worst_line : ℕ → Pieces
worst_line w = codes "mates " ∷ number_text w ∷ []

-- with a line feed
unfoldable pub worst_text : ℕ → List ℕ
worst_text w = put_lines [] (worst_line w ∷ [])

-- what the check of a plan file takes
abbrev pub check_cost : PlanState → ℕ
check_cost f = cost.check_cost (chess f.dialect) (outset f.dialect f.side) f.plan f.list

-- The answer is the plan's worst case over the listed positions, which is at most the number that the file claims. The
-- plan fails just where it does not mate all of them within that number, and the budget is spent just where it is less
-- than the check takes.
abbrev pub Checked : ℕ → PlanState → Result (List ℕ) Refusal → Type 0
Checked budget f (Ok answer) =
    (check_cost f ≤ budget) × (w : ℕ) × IsWorst (chess f.dialect) (outset f.dialect f.side) f.plan f.list w × (w ≤ f.worst) × (answer ≡ worst_text w)
Checked budget f (Err PlanFails) = (check_cost f ≤ budget) × (mates (chess f.dialect) (outset f.dialect f.side) f.plan f.list f.worst ≡ false)
Checked budget f (Err BudgetSpent) = budget < check_cost f
Checked budget f (Err _) = ⊥

-- the same of a text that may spell a plan file
abbrev pub Checks : ℕ → List ℕ → Result (List ℕ) Refusal → Type 0
Checks budget text outcome = OfText (whole plan_at (lines text)) (Checked budget) outcome

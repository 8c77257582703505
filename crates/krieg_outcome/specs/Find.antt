-- What `find` answers to a sheet: what `solve` answers, but it need not take a least number of units for that.
use Rattle.std.specs.Prelude.{ℕ, ◌<◌, List, Result, Ok, Err}
use Rattle.krieg_board.specs.Pos.{Pos}
use Rattle.krieg_board.specs.declared.men.Side.{Side}
use Rattle.krieg_words.specs.declared.dialects.Dialect.{Dialect}
use Rattle.krieg_planfile.specs.PlanFiles.{PlanState}
use Rattle.krieg_outcome.specs.Solve.{IsBestFile, IsTooLarge, Tells, fresh_units}
use Rattle.krieg_outcome.specs.declared.refusal.Refusal.{Refusal}
use Rattle.krieg_outcome.specs.declared.refusal.Refusal.TheVariants.{BudgetSpent, PlanTooLarge}

-- A search tells its answer, or that the best file is too large for a text; the budget is spent only where it is less than a
-- search may take.
abbrev pub Found : Dialect → Side → List Pos → ℕ → ℕ → Result (List ℕ) Refusal → Type 0
Found d who S n budget (Ok answer) = Tells d who S n answer
Found d who S n budget (Err PlanTooLarge) = (f : PlanState) × IsBestFile d who S n f × IsTooLarge f
Found d who S n budget (Err BudgetSpent) = budget < fresh_units d who S n
Found d who S n budget (Err _) = ⊥

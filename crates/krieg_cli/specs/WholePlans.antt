-- `solve` and `check` together: a plan file that one writes is judged by the other.
use Rattle.std.specs.Prelude.{◌≡◌, ◌<◌, ◌≤◌, ℕ, true, List, Option, Some, Ok}
use Rattle.std.specs.Io.KnownBytes.{Appends}
use Rattle.krieg_text.specs.Lines.{lines}
use Rattle.krieg_text.specs.Reading.{whole}
use Rattle.krieg_plan.specs.Trees.{PlanTrees}
use Rattle.krieg_planfile.specs.PlanFiles.{PlanState}
use Rattle.krieg_planfile.specs.PlanReading.{plan_at}
use Rattle.krieg_args.specs.declared.command.Command.{Command}
use Rattle.krieg_args.specs.declared.command.Command.TheVariants.{Check}
use Rattle.krieg_cli.specs.World.{World, FaultsRose}
use Rattle.krieg_outcome.specs.Solve.{mates_all}
use Rattle.krieg_outcome.specs.Check.{check_cost, worst_text}
use Rattle.krieg_outcome.specs.Ending.{EndsSo}
use Rattle.krieg_outcome.specs.declared.refusal.Refusal.TheVariants.{BudgetSpent}
use Rattle.krieg_outcome.specs.declared.ending.Ending.{Ending}
use Rattle.krieg_outcome.specs.declared.ending.Ending.TheVariants.{Answered, ReadFault, WriteFault, NoMemory, Refused}

-- the text is read as a file like those that `solve` writes: its plan mates from each listed position within the number that the
-- file states, and no plan has a smaller worst case
pub record IsSolution (f : PlanState) (text : List ℕ) : Type 0 where
  pub read : whole plan_at (lines text) ≡ Ok f
  pub mates : mates_all f.dialect f.side f.list f.plan f.worst ≡ true
  pub least : (plan : PlanTrees) (k : ℕ) → mates_all f.dialect f.side f.list plan k ≡ true → f.worst ≤ k

-- How `check` ends on such a text: with the number that the file states, unless the budget is less than the check takes, a stream
-- fails, or memory runs out. No such text is too long for an input.
abbrev pub EndsOnSolution : Ending → ℕ → PlanState → List ℕ → World → World → Type 0
EndsOnSolution Answered budget f text before after = Appends before.out.bytes after.out.bytes (worst_text f.worst)
EndsOnSolution (Refused BudgetSpent) budget f text before after = budget < check_cost f
EndsOnSolution ReadFault budget f text before after = FaultsRose before.input after.input
EndsOnSolution WriteFault budget f text before after = FaultsRose before.out after.out
EndsOnSolution NoMemory budget f text before after = Unit {0}
EndsOnSolution _ budget f text before after = ⊥

-- with the words of `check` a run ends so on every such text, where the input holds it
abbrev pub ChecksSolutions : Option Command → ℕ → World → World → Type 0
ChecksSolutions asked code before after = EndsSo code (λ ending.
    (budget : ℕ) (f : PlanState) (text : List ℕ) →
    asked ≡ Some (Check budget) → IsSolution f text → before.input.bytes ≡ Some text → EndsOnSolution ending budget f text before after)

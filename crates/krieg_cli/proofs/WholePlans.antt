-- A plan file like those that `solve` writes is judged by `check` with the number that it states.
use Rattle.std.proofs.Common.{◌≡◌, ℕ, List, Option, Some, Result, Ok, Err, ap, subst, ◌∙◌, arith}
use Rattle.std.proofs.lemmas.Bool.{both_ways}
use Rattle.std.specs.Io.KnownBytes.{Appends}
use Rattle.krieg_cli.proofs.Common.{lines, whole, PlanState, plan_at, Command, Check, World, OfText, status, worst_text, LiveOutcome, ComesTo, Ends, Runs, IsSolution, EndsOnSolution, ChecksSolutions, Refusal, BudgetSpent, PlanFails, Ending}
use Rattle.krieg_planfile.proofs.ReadSizes.{read_within}
use Rattle.krieg_outcome.specs.Check.{Checked}
use Rattle.krieg_outcome.specs.declared.ending.Ending.TheVariants as ending
use Rattle.krieg_cli.proofs.WholeGames.{text_read, given_le}

-- what `check` comes to on that text
checked : (plays : LiveOutcome) (budget : ℕ) (f : PlanState) (text : List ℕ) (before after : World) (outcome : Result (List ℕ) Refusal) → IsSolution f text → before.input.bytes ≡ Some text →
    ComesTo plays (Check budget) before after outcome → Checked budget f outcome
checked plays budget f text before after outcome solution holds (read, was, made) =
    subst (λ r. OfText r (Checked budget) outcome) (ap (λ t. whole plan_at (lines t)) (text_read before.input after.input text read holds was) ∙ solution.read) made

-- the worst case that was found is the number that the file states
same_worst : (f : PlanState) (budget : ℕ) (text answer : List ℕ) → IsSolution f text → Checked budget f (Ok answer) → answer ≡ worst_text f.worst
same_worst f budget text answer solution (enough, w, worst, within, told) =
    let least = solution.least f.plan w worst.mates_within in
    let same : w ≡ f.worst = omega (arith, least, within) in
    told ∙ ap worst_text same

refused : (r : Refusal) (budget : ℕ) (f : PlanState) (text : List ℕ) (before after : World) → IsSolution f text → Checked budget f (Err r) → EndsOnSolution (ending.Refused r) budget f text before after
refused BudgetSpent budget f text before after solution h = h
refused PlanFails budget f text before after solution h = both_ways _ h.1 solution.mates
refused _ budget f text before after solution h = h

ends_on_solution : (plays : LiveOutcome) (e : Ending) (budget : ℕ) (f : PlanState) (text : List ℕ) (before after : World) → IsSolution f text → before.input.bytes ≡ Some text →
    Ends plays e (Check budget) before after → EndsOnSolution e budget f text before after
ends_on_solution plays ending.Answered budget f text before after solution holds (answer, comes, written, kept) =
    subst (Appends before.out.bytes after.out.bytes) (same_worst f budget text answer solution (checked plays budget f text before after (Ok answer) solution holds comes)) written
ends_on_solution plays ending.TooLong budget f text before after solution holds ((takes, (took, consumed, long), kept), out) =
    absurd (omega (arith, long, given_le before.input.bytes after.input.bytes text took holds consumed, read_within text f solution.read))
ends_on_solution plays ending.ReadFault budget f text before after solution holds ((takes, came, rose), out) = rose
ends_on_solution plays ending.WriteFault budget f text before after solution holds (answer, comes, front, rose) = rose
ends_on_solution plays ending.NoMemory budget f text before after solution holds e = tt
ends_on_solution plays (ending.Refused r) budget f text before after solution holds e =
    refused r budget f text before after solution (checked plays budget f text before after (Err r) solution holds e.0)
ends_on_solution plays _ budget f text before after solution holds e = e

pub checks_solutions : (plays : LiveOutcome) (e : Ending) (asked : Option Command) (before after : World) (code : ℕ) → Runs plays e asked before after → code ≡ status e → ChecksSolutions asked code before after
checks_solutions plays e asked before after code runs ended =
    (e, ended, λ budget f text is solution holds. ends_on_solution plays e budget f text before after solution holds (subst (λ x. Runs plays e x before after) is runs))

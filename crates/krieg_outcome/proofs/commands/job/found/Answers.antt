use Rattle.std.proofs.Common.{ℕ, List, Err, sym, ap, subst, ◌∙◌}
use Rattle.std.proofs.lemmas.Result.{err_from_is_err_and}
use Rattle.krieg_outcome.proofs.Common.{White, MOST_UNITS, Wild16, Decides, Plans, found_lines, JOB_MOVES}
use Rattle.krieg_outcome.proofs.BestFiles.{one_turn_of}
use Rattle.krieg_outcome.proofs.Jobs.{search_stopped}
use Rattle.krieg_outcome.proofs.Searching.{stop_told}
use Rattle.krieg_outcome.proofs.commands.job.found.Goals as goal

pub solve-requires : goal.solve-requires
solve-requires c = record { turn = one_turn_of White White c.args.set.now c.requires }

pub returns-in_err-answer : goal.returns-in_err-answer
returns-in_err-answer c =
    let p = err_from_is_err_and c.from_residual.result c.from_residual.ensures.1 in
    subst (λ r. Decides found_lines r (Plans c.args.set.now)) (sym (p.1 ∙ ap Err p.2))
    (search_stopped c.args.set.now (λ (xs : List ℕ). xs) c.in_err-answer.field-0.0
    (stop_told Wild16 White c.args.set.now JOB_MOVES MOST_UNITS c.new-units.result c.solve.new.units c.new-units.ensures (λ (xs : List ℕ). xs) c.in_err-answer.field-0.0 c.in_err-answer.ensures.answer c.in_err-answer.ensures.units))

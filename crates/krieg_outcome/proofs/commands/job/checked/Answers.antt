use Rattle.std.proofs.Common.{List, Err, sym, ap, subst, ◌∙◌}
use Rattle.std.proofs.lemmas.Result.{err_from_is_err_and}
use Rattle.krieg_outcome.proofs.Common.{Pos, White, Wild16, plan_of, IsOneTurn, Decides, file_of, Plans, found_lines}
use Rattle.krieg_outcome.proofs.Jobs.{one_turn_among, plan_found, check_stopped}
use Rattle.krieg_outcome.proofs.commands.job.checked.Goals as goal

pub check-requires : goal.check-requires
check-requires c = subst IsOneTurn (sym c.in_ok-listed.ensures.same) (one_turn_among White c.args.set.now c.requires.hand)

pub returns-in_err-checked : goal.returns-in_err-checked
returns-in_err-checked c =
    let p = err_from_is_err_and c.from_residual-in_err-checked.result c.from_residual-in_err-checked.ensures.1 in
    subst (λ r. Decides found_lines r (Plans c.args.set.now)) (sym (p.1 ∙ ap Err p.2))
    (check_stopped c.args.set.now c.args.worst (plan_of c.args.plan) c.requires.best c.requires.fit _
    (ap (λ (L : List Pos). file_of Wild16 White L c.from.result (plan_of c.args.plan)) c.in_ok-listed.ensures.same ∙ ap (λ w. file_of Wild16 White c.args.set.now w (plan_of c.args.plan)) c.from.ensures)
    c.new-units.result c.check.new.units c.in_err-checked.field-0.0 c.new-units.ensures c.in_err-checked.ensures)

pub returns : goal.returns
returns c =
    plan_found c.args.set.now c.args.worst (plan_of c.args.plan) c.requires.best c.requires.fit _
    (ap (λ (L : List Pos). file_of Wild16 White L c.from.result (plan_of c.args.plan)) c.in_ok-listed.ensures.same ∙ ap (λ w. file_of Wild16 White c.args.set.now w (plan_of c.args.plan)) c.from.ensures)
    c.node_count-nodes.result c.in-Mates.checked c.new-units.result c.check.new.units c.in_ok-checked.field-0 c.requires.paid c.node_count-nodes.ensures c.new-units.ensures c.in_ok-checked.ensures c.in-Mates.is

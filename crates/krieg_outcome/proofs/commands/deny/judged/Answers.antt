use Rattle.std.proofs.Common.{Vec, Global, ℕ, Err, sym, ap, subst, ◌∙◌}
use Rattle.std.proofs.lemmas.Result.{err_from_is_err_and}
use Rattle.krieg_refutefile.specs.Refutations.{state_of}
use Rattle.krieg_outcome.proofs.Common.{Decides, Judged}
use Rattle.krieg_outcome.proofs.Denying.{stop_told, holds_told, fails_told}
use Rattle.krieg_outcome.proofs.commands.deny.judged.Goals as goal

pub returns-in_err-holds : goal.returns-in_err-holds
returns-in_err-holds c =
    let p = err_from_is_err_and c.from_residual.result c.from_residual.ensures.1 in
    subst (λ r. Decides (λ (answer : Vec ℕ Global). answer.items) r (Judged c.args.budget (state_of c.args.file.now))) (sym (p.1 ∙ ap Err p.2))
    (stop_told c.args.file.now c.args.budget c.new-units.result c.deny.new.units c.new-units.ensures (λ (answer : Vec ℕ Global). answer.items) c.in_err-holds.field-0.0 c.in_err-holds.ensures.units)

pub returns-in_ok-refuted_text : goal.returns-in_ok-refuted_text
returns-in_ok-refuted_text c =
    let holds = c.if-holds.true in
    holds_told c.args.file.now c.args.budget c.new-units.result c.deny.new.units c.new-units.ensures c.in_ok-holds.holds c.in_ok-holds.ensures.answer c.in_ok-holds.ensures.units
    c.in_ok-refuted_text.field-0.items holds (c.in_ok-holds.ensures.excludes holds) c.in_ok-refuted_text.ensures

pub returns-else-holds : goal.returns-else-holds
returns-else-holds c =
    fails_told c.args.file.now c.args.budget c.new-units.result c.deny.new.units c.new-units.ensures c.in_ok-holds.holds c.in_ok-holds.ensures.answer c.in_ok-holds.ensures.units c.if-holds.false

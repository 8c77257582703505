use Rattle.std.proofs.Common.{sym, ap, subst, ◌∙◌, ◌<◌}
use Rattle.krieg_board.specs.Sets.{has}
use Rattle.krieg_game.proofs.Stepping.{kept_there}
use Rattle.krieg_game.proofs.steps.Steps.has.Goals as goal

pub returns-then-is_step : goal.returns-then-is_step
returns-then-is_step c = λ e d own p pool are reached.
    let s = c.args.self.now in
    let r = c.args.r.now in
    let to = c.number.ensures.value in
    kept_there d own s p r are (c.is_step.ensures.king c.if-is_step.true) (c.is_step.ensures.plain c.if-is_step.true) (c.is_step.ensures.apart c.if-is_step.true) pool
    (subst (λ k. k < 64) to c.number.ensures.below) (ap (has s.reached) (sym to) ∙ sym c.has.ensures ∙ e) reached

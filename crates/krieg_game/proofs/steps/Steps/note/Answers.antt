use Rattle.std.proofs.Common.{ap, sym, ◌∙◌, ◌==◌}
use Rattle.std.specs.Prelude.{is_some}
use Rattle.krieg_game.proofs.Stepping.{none_is, reached_too}
use Rattle.krieg_game.proofs.steps.Steps.note.Goals as goal

pub returns-then-is_none-clause-reached : goal.returns-then-is_none-clause-reached
returns-then-is_none-clause-reached c = λ d own pool are i reached to l h.
    let s = c.args.self.now in
    let r = c.args.r.now in
    let empty = none_is _ c.is_none.result (ap (λ o. is_some o) (sym c.man_at.ensures.value) ∙ c.is_none.ensures) c.if-is_none.true in
    let k = reached_too d own s c.args.p.now r are (c.is_step.ensures.king c.if-is_step.true) (c.is_step.ensures.plain c.if-is_step.true) (c.is_step.ensures.apart c.if-is_step.true) pool c.only.result
    empty (λ k l. c.only.ensures k l ∙ ap (λ n. k == n) c.number.ensures.value) i reached to l h in
    record { free = k.free; there = k.there }

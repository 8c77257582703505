use Rattle.std.proofs.Common.{◌∙◌, ap, set}
use Rattle.std.specs.Prelude.{None}
use Rattle.krieg_moves.proofs.Common.{other, is_answered}
use Rattle.krieg_moves.proofs.AnswerSets.{answered_by_set}
use Rattle.krieg_moves.proofs.guard.Guard.answers_without.Goals as goal

pub returns : goal.returns
returns c = λ t h.
    c.answers_to.ensures t h
    ∙ answered_by_set (set c.bits-bits.result.now c.args.from None) c.other-by.result c.attackers_without.result c.args.self.now.king t c.attackers_without.ensures
    ∙ (λ i. is_answered (set (c.bits-bits.ensures.value i) c.args.from None) ((c.other-by.ensures ∙ ap other c.side-side.ensures.value) i) c.args.self.now.king t)

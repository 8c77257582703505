use Rattle.std.proofs.Common.{◌∙◌, sym, ap, subst, arith, ◌&&◌, ℕ}
use Rattle.std.proofs.Math.Bool.{and-true}
use Rattle.krieg_moves.proofs.Common.{has, IsLowest, answers_all}
use Rattle.krieg_board.proofs.SetLemmas.{has_all}
use Rattle.krieg_moves.proofs.AnswerSets.{answers_none, answered_more}
use Rattle.krieg_moves.proofs.guard.answers_to.Goals as goal

pub loop-rest-init : goal.loop-rest-init
loop-rest-init c = λ t h. ap (λ x. x && answers_all c.args.attackers c.args.square t) (has_all t h)

pub loop-rest-preserved : goal.loop-rest-preserved
loop-rest-preserved c = λ t h.
    let l = subst (λ (s : ℕ). IsLowest c.loop-rest.rest s) (sym c.number-attacker.ensures.value) c.lowest.ensures in
    answered_more c.loop-rest.answers c.only.result c.between_at.result c.loop-rest.rest c.without_lowest-rest.result c.number-attacker.result c.args.square t l
    (c.without_lowest-rest.ensures.others c.number-attacker.result l) (c.only.ensures t h) (c.between_at.ensures t h)
    ∙ c.loop-rest.invariant t h

pub returns : goal.returns
returns c = λ t h.
    sym (ap (λ x. has c.loop-rest.answers t && x) (answers_none c.args.square t c.loop-rest.rest (omega (arith, c.loop-rest-test.false))) ∙ and-true (has c.loop-rest.answers t))
    ∙ c.loop-rest.invariant t h

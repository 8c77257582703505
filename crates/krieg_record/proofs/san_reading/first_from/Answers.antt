use Rattle.std.proofs.Common.{◌∙◌, sym, arith}
use Rattle.krieg_record.proofs.OwnMen.{leaving_found, leaving_passed, leaving_ended}
use Rattle.krieg_record.proofs.san_reading.first_from.Goals as goal

pub returns-then-goes_from-clause-some : goal.returns-then-goes_from-clause-some
returns-then-goes_from-clause-some c =
    sym c.loop-rest.invariant
    ∙ leaving_found c.args.p.now c.args.n.now c.loop-rest.rest c.lowest-from.result c.without_lowest-rest.result c.lowest-from.ensures
    (c.without_lowest-rest.ensures.others c.lowest-from.result c.lowest-from.ensures) (sym c.goes_from.ensures ∙ c.if-goes_from.true)

pub loop-rest-preserved : goal.loop-rest-preserved
loop-rest-preserved c =
    leaving_passed c.args.p.now c.args.n.now c.loop-rest.rest c.lowest-from.result c.without_lowest-rest.result c.lowest-from.ensures
    (c.without_lowest-rest.ensures.others c.lowest-from.result c.lowest-from.ensures) (sym c.goes_from.ensures ∙ c.if-goes_from.false)
    ∙ c.loop-rest.invariant

pub returns-clause-none : goal.returns-clause-none
returns-clause-none c =
    sym c.loop-rest.invariant ∙ leaving_ended c.args.p.now c.args.n.now c.loop-rest.rest (omega (arith, c.loop-rest-test.false))

use Rattle.std.proofs.Common.{◌∙◌, sym, arith}
use Rattle.krieg_moves.proofs.Common.{man_at, is_of}
use Rattle.krieg_moves.proofs.Listing.{some_move, passed_man, no_move}
use Rattle.krieg_moves.proofs.ends.has_any.Goals as goal

pub returns-then-targets-ne0 : goal.returns-then-targets-ne0
returns-then-targets-ne0 c =
    sym (some_move c.args.p.now c.lowest-from.result c.targets.result c.lowest-from.ensures.below (omega (arith, c.if-targets-ne0.true)) c.targets.type_inv c.targets.ensures)

pub loop-rest-preserved : goal.loop-rest-preserved
loop-rest-preserved c =
    passed_man c.args.p.now c.lowest-from.result c.targets.result c.loop-rest.rest c.without_lowest-rest.result (omega (arith, c.if-targets-ne0.false)) c.lowest-from.ensures
    (c.without_lowest-rest.ensures.others c.lowest-from.result c.lowest-from.ensures) c.targets.ensures
    ∙ c.loop-rest.invariant

pub returns : goal.returns
returns c =
    sym (no_move c.args.p.now c.loop-rest.rest c.men_of-own.result (omega (arith, c.loop-rest-test.false)) c.loop-rest.invariant
    (λ k h. c.men_of-own.ensures k h ∙ (λ i. is_of (c.side.ensures.value i) (man_at (c.bits.ensures.value i) k))))

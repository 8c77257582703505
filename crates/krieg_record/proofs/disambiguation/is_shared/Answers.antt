use Rattle.std.proofs.Common.{◌∙◌, ◌&&◌, sym, arith}
use Rattle.krieg_record.proofs.Common.{fits, is_rival, is_own}
use Rattle.krieg_record.proofs.OwnMen.{some_passed, some_found, some_ended, shared_own}
use Rattle.krieg_record.proofs.disambiguation.is_shared.Goals as goal

pub returns-then-shares : goal.returns-then-shares
returns-then-shares c =
    let own = shared_own c.args.p.now c.args.officer c.args.mv.now c.args.origin c.own_men-rest.result (λ k h. c.own_men-rest.ensures k h ∙ (λ i. is_own c.args.p.now (c.kind_of.ensures i) k)) in
    let found = some_found (λ s. fits c.args.origin s && is_rival c.args.p.now c.args.officer c.args.mv.now s) c.loop-rest.rest c.lowest-s.result c.lowest-s.ensures
    (sym c.shares.ensures ∙ c.if-shares.true) in
    sym found ∙ c.loop-rest.invariant ∙ own

pub loop-rest-preserved : goal.loop-rest-preserved
loop-rest-preserved c =
    some_passed (λ s. fits c.args.origin s && is_rival c.args.p.now c.args.officer c.args.mv.now s) c.loop-rest.rest c.lowest-s.result c.without_lowest-rest.result
    (sym c.shares.ensures ∙ c.if-shares.false) (c.without_lowest-rest.ensures.others c.lowest-s.result c.lowest-s.ensures)
    ∙ c.loop-rest.invariant

pub returns : goal.returns
returns c =
    let own = shared_own c.args.p.now c.args.officer c.args.mv.now c.args.origin c.own_men-rest.result (λ k h. c.own_men-rest.ensures k h ∙ (λ i. is_own c.args.p.now (c.kind_of.ensures i) k)) in
    let none = some_ended (λ s. fits c.args.origin s && is_rival c.args.p.now c.args.officer c.args.mv.now s) c.loop-rest.rest (omega (arith, c.loop-rest-test.false)) in
    sym none ∙ c.loop-rest.invariant ∙ own

use Rattle.std.proofs.Common.{sym, subst, arith, rules}
use Rattle.std.proofs.lemmas.Bool.{eqb-true}
use Rattle.krieg_pack.proofs.Common.{IsLowest}
use Rattle.krieg_pack.proofs.OneMen.{fields_step, left_all, left_end, left_step, left_no, left_over}
use Rattle.krieg_pack.proofs.one_man.OneMan.are.Goals as goal

pub loop-m-init : goal.loop-m-init
loop-m-init c = (search rules, left_all c.args.self.now c.args.members.now)

pub returns-then-rest-eq0-clause-value : goal.returns-then-rest-eq0-clause-value
returns-then-rest-eq0-clause-value c = left_over c.args.self.now c.args.members.now c.loop-m.rest c.loop-m.m-index c.m-item.result c.loop-m-test.true c.m-item.is c.loop-m.invariant.1 c.if-rest-eq0.true

pub returns-then-not-is_at-clause-value : goal.returns-then-not-is_at-clause-value
returns-then-not-is_at-clause-value c =
    let l = subst (IsLowest c.loop-m.rest) (sym c.number-place.ensures.value) c.lowest.ensures in
    let s = fields_step c.args.self.now c.loop-m.rest c.number-place.result c.without_lowest-rest.result l (c.without_lowest-rest.ensures.others c.number-place.result l) in
    left_no c.args.self.now c.args.members.now c.loop-m.rest c.loop-m.m-index c.m-item.result c.loop-m-test.true c.m-item.is c.loop-m.invariant.1 c.number-place.result c.without_lowest-rest.result s (sym c.if-not-is_at.ensures.value)

pub loop-m-preserved : goal.loop-m-preserved
loop-m-preserved c =
    let l = subst (IsLowest c.loop-m.rest) (sym c.number-place.ensures.value) c.lowest.ensures in
    let s = fields_step c.args.self.now c.loop-m.rest c.number-place.result c.without_lowest-rest.result l (c.without_lowest-rest.ensures.others c.number-place.result l) in
    let found = c.is_at.ensures in (
      c.without_lowest-rest.type_inv,
      left_step c.args.self.now c.args.members.now c.loop-m.rest c.loop-m.m-index c.m-item.result c.loop-m-test.true c.m-item.is c.loop-m.invariant.1 c.number-place.result c.without_lowest-rest.result s (sym c.if-not-is_at.ensures.value)
          (found.packed c.if-not-is_at.false) (found.same c.if-not-is_at.false),
    )

pub returns-clause-value : goal.returns-clause-value
returns-clause-value c = (left_end c.args.self.now c.args.members.now c.loop-m.rest c.loop-m.m-index c.loop-m.invariant.0 (omega (arith, c.loop-m-test.false)) c.loop-m.invariant.1).0

pub returns-clause-packed : goal.returns-clause-packed
returns-clause-packed c e = ((left_end c.args.self.now c.args.members.now c.loop-m.rest c.loop-m.m-index c.loop-m.invariant.0 (omega (arith, c.loop-m-test.false)) c.loop-m.invariant.1).1 (eqb-true c.loop-m.rest 0 e)).0

pub returns-clause-same : goal.returns-clause-same
returns-clause-same c e = ((left_end c.args.self.now c.args.members.now c.loop-m.rest c.loop-m.m-index c.loop-m.invariant.0 (omega (arith, c.loop-m-test.false)) c.loop-m.invariant.1).1 (eqb-true c.loop-m.rest 0 e)).1

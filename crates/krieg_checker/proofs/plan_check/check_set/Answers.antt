use Rattle.std.proofs.Common.{rules, sym, subst, arith}
use Rattle.krieg_checker.proofs.Common.{plan_of, IsVerdict}
use Rattle.krieg_parting.proofs.Charges.{stopped}
use Rattle.krieg_checker.proofs.Checking.{start_cost, plan_tells, plan_cost}
use Rattle.krieg_checker.proofs.Verdicts.{is_verdict}
use Rattle.krieg_checker.proofs.plan_check.check_set.Goals as goal

pub returns-in_err-started : goal.returns-in_err-started
returns-in_err-started c = λ f parts.
    let s = rw (parts.dialect_part, parts.side_part, parts.set_part) at c.in_err-started.ensures in
    stopped _ c.from_residual.result c.in_err-started.field-0.0 _ _ _ _ _ _ _ (λ x h. cc) c.from_residual.ensures.1
    (omega (arith, start_cost f.dialect f.side (plan_of f.plan) f.list.items)) (omega arith) s

pub returns-in_err-need : goal.returns-in_err-need
returns-in_err-need c = λ f parts.
    let s = rw (parts.dialect_part, parts.side_part, parts.set_part) at c.in_ok-started.ensures in
    let w = rw (parts.dialect_part, parts.plan_part) at c.in_err-need.ensures in
    stopped _ c.from_residual-in_err-need.result c.in_err-need.field-0.0 _ _ _ _ _ _ _ (λ x h. cc) c.from_residual-in_err-need.ensures.1
    (omega (arith, s.1, plan_cost f.dialect f.side (plan_of f.plan) f.list.items c.in_ok-started.started s.0)) (omega (arith, s.1)) w

pub returns : goal.returns
returns c = λ f parts.
    let s = rw (parts.dialect_part, parts.side_part, parts.set_part) at c.in_ok-started.ensures in
    let w = rw (parts.dialect_part, parts.plan_part) at c.in_ok-need.ensures in
    let v = rw (parts.worst_part) at c.verdict.ensures in
    let tells = plan_tells f.dialect f.side (plan_of f.plan) f.list.items c.in_ok-started.started s.0 c.in_ok-need.need w.0 in (
      subst (IsVerdict f) (sym v) (is_verdict f (search rules) c.in_ok-started.started.over c.in_ok-need.need tells),
      omega (arith, s.1, w.1, plan_cost f.dialect f.side (plan_of f.plan) f.list.items c.in_ok-started.started s.0),
    )

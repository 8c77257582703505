use Rattle.std.proofs.Common.{rules, ◌+◌, drop, ap, subst, arith, List}
use Rattle.krieg_parting.proofs.Common.{Pos, made, chess}
use Rattle.krieg_parting.proofs.Charges.{stopped}
use Rattle.krieg_parting.proofs.Items.{drop_item, drop_end}
use Rattle.krieg_parting.proofs.Gathering.{IsLeft, left_all, left_more, left_none}
use Rattle.krieg_parting.proofs.parts.gather.Goals as goal

pub loop-member-init : goal.loop-member-init
loop-member-init c = record { left = left_all c.args.attempt.now _ c.args.members.now (search rules) (search rules) (search rules); taken = search rules; fewer = omega arith }

pub returns-in_err-add_member : goal.returns-in_err-add_member
returns-in_err-add_member c =
    let here = drop_item c.args.members.now c.loop-member.member-index c.member-item.result (omega arith) c.member-item.is in
    let more = ap (λ (xs : List Pos). made (chess c.args.attempt.now.dialect) xs c.args.attempt.now.mv) here in
    stopped _ c.from_residual.result c.in_err-add_member.field-0.0 _ _ _ _ _ _ _ (λ x h. cc) c.from_residual.ensures.1 (omega (arith, more, c.loop-member.invariant.taken)) c.loop-member.invariant.fewer c.in_err-add_member.ensures

pub loop-member-preserved : goal.loop-member-preserved
loop-member-preserved c =
    let rest = drop (c.loop-member.member-index + 1) c.args.members.now in
    let here = drop_item c.args.members.now c.loop-member.member-index c.member-item.result (omega arith) c.member-item.is in
    let more = ap (λ (xs : List Pos). made (chess c.args.attempt.now.dialect) xs c.args.attempt.now.mv) here in
    let a = c.in_ok-add_member.ensures in
    record {
      left = left_more c.args.attempt.now c.loop-member.parts _ c.member-item.result rest c.args.members.now a.0 (subst (λ (xs : List Pos). IsLeft c.args.attempt.now c.loop-member.parts xs c.args.members.now) here c.loop-member.invariant.left);
      taken = omega (arith, a.1, more, c.loop-member.invariant.taken);
      fewer = omega (arith, a.1, c.loop-member.invariant.fewer);
    }

pub returns : goal.returns
returns c =
    let none = drop_end c.args.members.now c.loop-member.member-index (omega arith) in (
      left_none c.args.attempt.now c.loop-member.parts _ c.args.members.now none c.loop-member.invariant.left,
      omega (arith, c.loop-member.invariant.taken, ap (λ (xs : List Pos). made (chess c.args.attempt.now.dialect) xs c.args.attempt.now.mv) none),
    )

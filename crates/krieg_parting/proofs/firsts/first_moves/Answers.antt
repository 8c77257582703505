use Rattle.std.proofs.Common.{rules, ◌+◌, length, drop, ap, subst, arith, List}
use Rattle.krieg_parting.proofs.Common.{Pos, moves, total}
use Rattle.krieg_parting.proofs.Charges.{stopped}
use Rattle.krieg_parting.proofs.Items.{drop_item, drop_end}
use Rattle.krieg_parting.proofs.Advancing.{IsLeft, left_all, left_more, left_none}
use Rattle.krieg_parting.proofs.firsts.first_moves.Goals as goal

pub loop-member-init : goal.loop-member-init
loop-member-init c = record { left = left_all c.args.d _ c.args.members.now (search rules) (search rules); taken = search rules; fewer = omega arith }

pub returns-in_err-add_first_moves : goal.returns-in_err-add_first_moves
returns-in_err-add_first_moves c =
    let here = drop_item c.args.members.now c.loop-member.member-index c.member-item.result (omega arith) c.member-item.is in
    let more = ap (λ (xs : List Pos). total (λ p. length (moves p)) xs) here in
    stopped _ c.from_residual.result c.in_err-add_first_moves.field-0.0 _ _ _ _ _ _ _ (λ x h. cc) c.from_residual.ensures.1 (omega (arith, more, c.loop-member.invariant.taken)) c.loop-member.invariant.fewer c.in_err-add_first_moves.ensures

pub loop-member-preserved : goal.loop-member-preserved
loop-member-preserved c =
    let rest = drop (c.loop-member.member-index + 1) c.args.members.now in
    let here = drop_item c.args.members.now c.loop-member.member-index c.member-item.result (omega arith) c.member-item.is in
    let more = ap (λ (xs : List Pos). total (λ p. length (moves p)) xs) here in
    let a = c.in_ok-add_first_moves.ensures in
    record {
      left = left_more c.args.d c.loop-member.found _ c.member-item.result rest c.args.members.now a.0 (subst (λ (xs : List Pos). IsLeft c.args.d c.loop-member.found xs c.args.members.now) here c.loop-member.invariant.left);
      taken = omega (arith, a.1, more, c.loop-member.invariant.taken);
      fewer = omega (arith, a.1, c.loop-member.invariant.fewer);
    }

pub returns : goal.returns
returns c =
    let none = drop_end c.args.members.now c.loop-member.member-index (omega arith) in (
      left_none c.args.d c.loop-member.found _ c.args.members.now none c.loop-member.invariant.left,
      omega (arith, c.loop-member.invariant.taken, ap (λ (xs : List Pos). total (λ p. length (moves p)) xs) none),
    )

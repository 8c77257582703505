use Rattle.std.proofs.Common.{rules, ap, subst, ◌∙◌, arith, List}
use Rattle.std.proofs.lemmas.List.{drop_more, drop_all, take_all}
use Rattle.krieg_parting.proofs.Charges.{stopped}
use Rattle.krieg_judge.proofs.Common.{Pos, start_cost, total}
use Rattle.krieg_judge.proofs.FirstTurns.{AreAdded, are_started, none_added, one_added}
use Rattle.krieg_judge.proofs.start.start.Goals as goal

pub loop-member-init : goal.loop-member-init
loop-member-init c = record { added = none_added c.args.s.now _; taken = search rules; fewer = omega arith }

pub returns-in_err-start_at : goal.returns-in_err-start_at
returns-in_err-start_at c =
    let cost = start_cost c.args.s.now in
    let ms = c.members-members.result.now in
    let here = ap (λ (xs : List Pos). total cost xs) (drop_more ms c.loop-member.member-index c.member-item.result c.loop-member-test.true) in
    let one = ap cost (c.unpack.ensures.value ∙ c.member-item.is) in
    let all = ap (λ (xs : List Pos). total cost xs) c.members-members.ensures.value in
    stopped _ c.from_residual.result c.in_err-start_at.field-0.0 _ _ _ _ _ _ _ (λ x h. cc) c.from_residual.ensures.1 (omega (arith, here, one, all, c.loop-member.invariant.taken)) c.loop-member.invariant.fewer c.in_err-start_at.ensures

pub loop-member-preserved : goal.loop-member-preserved
loop-member-preserved c =
    let cost = start_cost c.args.s.now in
    let ms = c.members-members.result.now in
    let here = ap (λ (xs : List Pos). total cost xs) (drop_more ms c.loop-member.member-index c.member-item.result c.loop-member-test.true) in
    let one = ap cost (c.unpack.ensures.value ∙ c.member-item.is) in
    let a = c.in_ok-start_at.ensures in
    record {
      added = one_added c.args.s.now c.new-found.result c.loop-member.found c.start_at.new.found ms c.loop-member.member-index c.member-item.result c.unpack.result c.loop-member-test.true c.member-item.is c.unpack.ensures.value c.loop-member.invariant.added a.0;
      taken = omega (arith, here, one, a.1, c.loop-member.invariant.taken);
      fewer = omega (arith, a.1, c.loop-member.invariant.fewer);
    }

pub returns : goal.returns
returns c =
    let cost = start_cost c.args.s.now in
    let ms = c.members-members.result.now in
    let none = ap (λ (xs : List Pos). total cost xs) (drop_all c.loop-member.member-index ms (omega arith)) in
    let all = ap (λ (xs : List Pos). total cost xs) c.members-members.ensures.value in (
      are_started c.args.s.now c.new-found.result c.loop-member.found c.args.set.now c.new-found.ensures.need c.new-found.ensures.waiting
          (subst (λ xs. AreAdded c.args.s.now xs c.new-found.result c.loop-member.found) (take_all c.loop-member.member-index ms (omega arith) ∙ c.members-members.ensures.value) c.loop-member.invariant.added),
      omega (arith, none, all, c.loop-member.invariant.taken),
    )

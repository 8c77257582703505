use Rattle.std.proofs.Common.{false, ap, subst, ◌∙◌, arith}
use Rattle.krieg_split.proofs.Common.{made, chess, IsMating}
use Rattle.krieg_split.proofs.Charges.{unpaid}
use Rattle.krieg_split.proofs.LastMoves.{last_move}
use Rattle.krieg_split.proofs.last_move.split_to_mate.Goals as goal

pub returns-in_err-found-clause-units : goal.returns-in_err-found-clause-units
returns-in_err-found-clause-units c =
    let cost = ap (λ B. made (chess c.args.d) B c.args.mv) c.members.ensures.value in
    unpaid _ c.from_residual.result c.in_err-found.field-0.0 _ _ _ _ _ _ (λ x h. cc) c.from_residual.ensures.1 cost (c.new-left.ensures ∙ c.left.ensures) (c.in_err-found.ensures c.args.d)

pub returns-clause-parts : goal.returns-clause-parts
returns-clause-parts c =
    let tried = subst (λ B. IsMating c.args.d false B c.args.mv c.in_ok-found.found) c.members.ensures.value (c.in_ok-found.ensures c.args.d).0 in
    last_move c.args.d c.args.b.now c.args.mv c.in_ok-found.found c.left_by.result c.members.ensures.ascending tried c.left_by.ensures

pub returns-clause-units : goal.returns-clause-units
returns-clause-units c =
    let cost = ap (λ B. made (chess c.args.d) B c.args.mv) c.members.ensures.value in
    omega (arith, (c.in_ok-found.ensures c.args.d).1, cost)

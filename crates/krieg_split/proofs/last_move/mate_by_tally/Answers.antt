use Rattle.std.proofs.Common.{◌≡◌, ◌+◌, false, ap, subst, ◌∙◌, arith}
use Rattle.krieg_split.proofs.Common.{made, chess, AreTried, Tally}
use Rattle.krieg_parting.proofs.LastMoves.{looked_is_made, mating}
use Rattle.krieg_split.proofs.Charges.{unpaid}
use Rattle.krieg_split.proofs.LastMoves.{last_move}
use Rattle.krieg_split.proofs.last_move.mate_by_tally.Goals as goal

pub returns-in_err-pay-clause-units : goal.returns-in_err-pay-clause-units
returns-in_err-pay-clause-units c =
    let y = c.args.tally.now in
    let cost : c.len.result + y.replies ≡ made (chess c.args.d) c.args.b.now y.mv = omega (arith, looked_is_made c.args.d c.args.b.now y.mv, ap (λ (y : Tally). y.replies) c.requires, c.len.ensures.value) in
    unpaid _ c.from_residual.result c.in_err-pay.field-0.0 _ _ _ _ _ _ (λ x h. cc) c.from_residual.ensures.1 cost (c.new-left.ensures ∙ c.left.ensures) c.in_err-pay.ensures

pub returns-clause-parts : goal.returns-clause-parts
returns-clause-parts c =
    let t = c.args.tally.now.mv in
    let found = c.in_ok-found.found in
    let tried = subst (λ B. AreTried false B t found) c.members.ensures.value c.in_ok-found.ensures in
    last_move c.args.d c.args.b.now t found c.left_by.result c.members.ensures.ascending (mating c.args.d false c.args.b.now t found tried) c.left_by.ensures

pub returns-clause-units : goal.returns-clause-units
returns-clause-units c =
    let y = c.args.tally.now in
    omega (arith, looked_is_made c.args.d c.args.b.now y.mv, ap (λ (y : Tally). y.replies) c.requires, c.len.ensures.value, c.in_ok-pay.ensures.1)

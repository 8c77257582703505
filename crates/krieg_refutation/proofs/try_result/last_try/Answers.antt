use Rattle.std.proofs.Common.{ap, refl, sym, ◌∙◌, arith}
use Rattle.krieg_parting.proofs.Charges.{stopped}
use Rattle.krieg_parting.proofs.LastMoves.{looked_is_made, some_lives}
use Rattle.krieg_refutation.proofs.Common.{Tally, IsTryResult}
use Rattle.krieg_refutation.proofs.try_result.last_try.Goals as goal

pub returns-in_err-take-2 : goal.returns-in_err-take-2
returns-in_err-take-2 c =
    let y = c.args.tally.now in
    let B = c.args.set.now in
    stopped _ c.from_residual-in_err-take-2.result c.in_err-take-2.field-0.0 _ _ y.replies _ _ c.take.new.units _ (λ x h. cc) c.from_residual-in_err-take-2.ensures.1
    (omega (arith, looked_is_made c.args.d B y.mv, ap (λ (y : Tally). y.replies) c.requires, c.len.ensures.value, c.in_ok-take.ensures.1)) (omega (arith, c.in_ok-take.ensures.1)) c.in_err-take-2.ensures

pub returns : goal.returns
unfolding IsTryResult
returns c =
    let y = c.args.tally.now in
    let B = c.args.set.now in (
      (refl, record { set_part = refl; move_part = refl; lives_part = ap (λ (y : Tally). y.lives) c.requires ∙ sym (some_lives c.args.d B y.mv) }),
      omega (arith, looked_is_made c.args.d B y.mv, ap (λ (y : Tally). y.replies) c.requires, c.len.ensures.value, c.in_ok-take.ensures.1, c.in_ok-take-2.ensures.1),
    )

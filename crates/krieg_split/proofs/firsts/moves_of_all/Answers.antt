use Rattle.std.proofs.Common.{arith}
use Rattle.krieg_parting.proofs.Charges.{stopped, later}
use Rattle.krieg_split.proofs.FirstMoves.{by_members}
use Rattle.krieg_split.proofs.firsts.moves_of_all.Goals as goal

pub returns-in_err-take : goal.returns-in_err-take
returns-in_err-take c =
    stopped _ c.from_residual.result c.in_err-take.field-0.0 _ _ _ _ _ _ _ (λ x h. cc) c.from_residual.ensures.1 (omega (arith, by_members c.args.members.now)) (omega arith) c.in_err-take.ensures

pub returns : goal.returns
returns c =
    later c.first_moves.result _ _ _ _ _ _ _ (λ x h. h) (omega (arith, by_members c.args.members.now, c.in_ok-take.ensures.1)) (omega (arith, c.in_ok-take.ensures.1)) c.first_moves.ensures

use Rattle.std.proofs.Common.{sym}
use Rattle.krieg_parting.proofs.Charges.{said}
use Rattle.krieg_parting.proofs.LastMoves.{looked_is_made, mating}
use Rattle.krieg_parting.proofs.last_move.try_to_mate.Goals as goal

pub returns : goal.returns
returns c = λ d. said c.try_in_all.result _ _ _ _ _ _ (mating d c.args.always c.args.members.now c.args.mv.now) (sym (looked_is_made d c.args.members.now c.args.mv.now)) c.try_in_all.ensures

use Rattle.std.proofs.Common.{arith}
use Rattle.std.proofs.lemmas.Nat.{or_lt}
use Rattle.krieg_pack.proofs.CodeBits.{ones_shown}
use Rattle.krieg_pack.proofs.Unpacking.{plane_is}
use Rattle.krieg_pack.proofs.planes.ones.Goals as goal

pub returns : goal.returns
returns c =
    let men = c.sets-men.result.now in
    plane_is _ 0 c.args.board.now (or_lt 64 _ men.queens (or_lt 64 men.pawns men.bishops (omega arith) (omega arith)) (omega arith)) (λ k h. ones_shown men c.args.board.now c.sets-men.ensures k h)

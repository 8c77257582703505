use Rattle.std.proofs.Common.{arith}
use Rattle.krieg_pack.proofs.CodeBits.{and_small, eights_shown}
use Rattle.krieg_pack.proofs.Unpacking.{plane_is}
use Rattle.krieg_pack.proofs.planes.eights.Goals as goal

pub returns : goal.returns
returns c =
    let men = c.sets-men.result.now in
    plane_is _ 3 c.args.board.now (and_small men.black _ (omega arith)) (λ k h. eights_shown men c.args.board.now c.sets-men.ensures k h (omega arith))

use Rattle.std.proofs.Common.{arith, bit_and}
use Rattle.std.proofs.lemmas.Nat.{or_lt}
use Rattle.krieg_pack.proofs.CodeBits.{and_small, fours_shown}
use Rattle.krieg_pack.proofs.Unpacking.{plane_is}
use Rattle.krieg_pack.proofs.planes.fours.Goals as goal

pub returns : goal.returns
returns c =
    let men = c.sets-men.result.now in
    plane_is _ 2 c.args.board.now (or_lt 64 (bit_and men.white _) (bit_and men.black _) (and_small men.white _ (omega arith)) (and_small men.black _ (omega arith))) (λ k h. fours_shown men c.args.board.now c.sets-men.ensures k h)

use Rattle.krieg_board.proofs.SameMen.{differing_has}
use Rattle.krieg_board.proofs.hand.differing.Goals as goal

pub returns : goal.returns
returns c = differing_has c.args.a.now c.args.b.now c.sets-a.result.now c.sets-b.result.now c.sets-a.ensures c.sets-b.ensures

use Rattle.std.proofs.Common.{◌∙◌}
use Rattle.krieg_board.proofs.MoveOrder.{move_cmp_derived}
use Rattle.krieg_board.proofs.men.Move.compare.Goals as goal

pub returns : goal.returns
returns c = c.cmp.ensures ∙ move_cmp_derived c.args.self.now c.args.other.now

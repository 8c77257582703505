use Rattle.krieg_board.proofs.BoardSets.{shows}
use Rattle.krieg_board.proofs.bits.Bits.sets.Goals as goal

pub returns : goal.returns
returns c = shows c.self.inside.sets c.args.self.now c.self.invariant c.self.view_is

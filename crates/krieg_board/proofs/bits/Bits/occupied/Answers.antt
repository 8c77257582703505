use Rattle.krieg_board.proofs.BoardSets.{shows, occupied_has}
use Rattle.krieg_board.proofs.bits.Bits.occupied.Goals as goal

pub returns : goal.returns
returns c = occupied_has c.self.inside.sets c.args.self.now (shows c.self.inside.sets c.args.self.now c.self.invariant c.self.view_is)

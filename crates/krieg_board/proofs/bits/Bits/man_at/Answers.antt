use Rattle.std.proofs.Common.{◌∙◌}
use Rattle.krieg_board.proofs.BoardSets.{shows}
use Rattle.krieg_board.proofs.Writing.{man_on_shown}
use Rattle.krieg_board.proofs.bits.Bits.man_at.Goals as goal

pub returns : goal.returns
returns c =
    c.man_on.ensures
    ∙ man_on_shown c.self.inside.sets c.args.self.now (shows c.self.inside.sets c.args.self.now c.self.invariant c.self.view_is) c.args.s c.requires

use Rattle.std.proofs.Common.{◌∙◌, ap, sym, length}
use Rattle.krieg_board.proofs.Writing.{length_board_of}
use Rattle.krieg_board.proofs.bits.know_size.Goals as goal

pub returns : goal.returns
returns c = ap length (sym c.b.view_is) ∙ length_board_of c.b.inside.sets

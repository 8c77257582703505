use Rattle.std.proofs.Common.{◌∙◌}
use Rattle.krieg_board.proofs.Copying.{nothing_board, nothing_exact}
use Rattle.krieg_board.proofs.bits.Bits.empty.Goals as goal

pub from_sets-requires : goal.from_sets-requires
from_sets-requires c = nothing_exact

pub returns : goal.returns
returns c = c.from_sets.ensures ∙ nothing_board

use Rattle.std.proofs.Common.{sym, refl}
use Rattle.krieg_moves.proofs.Common.{has}
use Rattle.krieg_board.proofs.OneKing.{set_empty}
use Rattle.krieg_moves.proofs.ends.has_squares.Goals as goal

pub returns : goal.returns
returns c = sym (set_empty c.args.set (has c.args.set) c.ranges.set.fits (λ k h. refl))

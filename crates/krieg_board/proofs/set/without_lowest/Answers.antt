use Rattle.krieg_board.proofs.SetLemmas.{has_rest}
use Rattle.krieg_board.proofs.set.without_lowest.Goals as goal

pub returns-clause-others : goal.returns-clause-others
returns-clause-others c = λ s l k h. has_rest c.args.set s k c.requires c.ranges.set.fits l

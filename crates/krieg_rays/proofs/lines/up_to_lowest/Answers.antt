use Rattle.krieg_rays.proofs.Ends.{up_to_none_below}
use Rattle.krieg_rays.proofs.lines.up_to_lowest.Goals as goal

pub returns : goal.returns
returns c = λ k h. up_to_none_below c.args.set k c.ranges.set.fits h

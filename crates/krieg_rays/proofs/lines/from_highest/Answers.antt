use Rattle.krieg_rays.proofs.Ends.{from_none_above, leading_or_one}
use Rattle.krieg_rays.proofs.lines.from_highest.Goals as goal

pub overflow_sub-result : goal.overflow_sub-result
overflow_sub-result c = leading_or_one c.args.set c.ranges.set.fits

pub returns : goal.returns
returns c = λ k h. from_none_above c.args.set k c.ranges.set.fits h

use Rattle.krieg_rays.proofs.Taking.{only_one, not_only_one}
use Rattle.krieg_rays.proofs.pin.only_one.Goals as goal

pub returns-then-set-eq0 : goal.returns-then-set-eq0
returns-then-set-eq0 c = λ k h. only_one c.args.set k c.ranges.set.fits c.if-set-eq0.true

pub returns-else-set-eq0 : goal.returns-else-set-eq0
returns-else-set-eq0 c = λ k h. not_only_one c.args.set k c.ranges.set.fits c.if-set-eq0.false

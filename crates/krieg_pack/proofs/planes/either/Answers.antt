use Rattle.krieg_pack.proofs.CodeBits.{either_is}
use Rattle.krieg_pack.proofs.planes.either.Goals as goal

pub returns : goal.returns
returns c = λ k h. either_is c.args.here c.args.first c.args.second k c.ranges.here.fits h

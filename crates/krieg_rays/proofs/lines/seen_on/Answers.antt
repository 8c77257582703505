use Rattle.krieg_rays.proofs.Seen.{seen}
use Rattle.krieg_rays.proofs.lines.seen_on.Goals as goal

pub returns : goal.returns
returns c = λ k h.
    seen c.args.line c.args.occupied c.args.s k c.up_to_lowest-up.result c.from_highest-down.result c.requires.square c.requires.apart
    (c.up_to_lowest-up.ensures k h) (c.from_highest-down.ensures k h)

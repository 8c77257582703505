use Rattle.krieg_rays.proofs.Geometry.{rising_apart, falling_apart, diagonal_open}
use Rattle.krieg_rays.proofs.lines.diagonal_from.Goals as goal

pub seen_on-on_rising-requires-clause-apart : goal.seen_on-on_rising-requires-clause-apart
seen_on-on_rising-requires-clause-apart c = rising_apart c.rising_through.result c.args.s c.requires c.rising_through.ensures

pub seen_on-on_falling-requires-clause-apart : goal.seen_on-on_falling-requires-clause-apart
seen_on-on_falling-requires-clause-apart c = falling_apart c.falling_through.result c.args.s c.requires c.falling_through.ensures

pub returns : goal.returns
returns c = λ k h.
    diagonal_open c.args.occupied c.args.s k c.rising_through.result c.falling_through.result c.seen_on-on_rising.result c.seen_on-on_falling.result c.requires h
    c.rising_through.ensures c.falling_through.ensures (c.seen_on-on_rising.ensures k h) (c.seen_on-on_falling.ensures k h)

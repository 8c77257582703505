use Rattle.krieg_rays.proofs.Spans.{between_has}
use Rattle.krieg_rays.proofs.segment.between_at.Goals as goal

pub returns : goal.returns
returns c = λ k h.
    between_has c.args.a c.args.c k c.requires.first c.requires.second h
    c.file_through.result c.file_through-2.result c.rank_through.result c.rank_through-2.result
    c.rising_through.result c.rising_through-2.result c.falling_through.result c.falling_through-2.result
    (c.file_through.ensures k h) (c.file_through-2.ensures k h) (c.rank_through.ensures k h) (c.rank_through-2.ensures k h)
    (c.rising_through.ensures k h) (c.rising_through-2.ensures k h) (c.falling_through.ensures k h) (c.falling_through-2.ensures k h)

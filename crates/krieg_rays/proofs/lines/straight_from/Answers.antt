use Rattle.krieg_rays.proofs.Geometry.{file_apart, rank_apart, straight_open}
use Rattle.krieg_rays.proofs.lines.straight_from.Goals as goal

pub seen_on-on_file-requires-clause-apart : goal.seen_on-on_file-requires-clause-apart
seen_on-on_file-requires-clause-apart c = file_apart c.file_through.result c.args.s c.requires c.file_through.ensures

pub seen_on-on_rank-requires-clause-apart : goal.seen_on-on_rank-requires-clause-apart
seen_on-on_rank-requires-clause-apart c = rank_apart c.rank_through.result c.args.s c.requires c.rank_through.ensures

pub returns : goal.returns
returns c = λ k h.
    straight_open c.args.occupied c.args.s k c.file_through.result c.rank_through.result c.seen_on-on_file.result c.seen_on-on_rank.result c.requires h
    c.file_through.ensures c.rank_through.ensures (c.seen_on-on_file.ensures k h) (c.seen_on-on_rank.ensures k h)

use Rattle.std.proofs.Common.{rules}
use Rattle.krieg_belief.proofs.Numbers.{begin_more, begin_kept, begin_tales}
use Rattle.krieg_belief.proofs.links.begin.Goals as goal

pub loop-i-preserved : goal.loop-i-preserved
loop-i-preserved c =
    begin_more c.args.starts.now c.loop-i.i c.k-item.result c.loop-i.tales.entries c.insert.new.self.entries c.members-k-items.ensures.ascending (search rules) (search rules) c.loop-i.invariant (search rules)

pub returns-clause-kept : goal.returns-clause-kept
returns-clause-kept c = begin_kept c.args.starts.now c.loop-i.tales.entries c.loop-i.i (search rules) c.loop-i.invariant

pub returns-clause-tales : goal.returns-clause-tales
returns-clause-tales c = begin_tales c.args.starts.now c.loop-i.tales.entries c.loop-i.i (search rules) c.loop-i.invariant

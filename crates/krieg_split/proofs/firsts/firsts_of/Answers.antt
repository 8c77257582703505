use Rattle.std.proofs.Common.{map, length, ap, arith}
use Rattle.krieg_split.proofs.Common.{class_pair, first_pair}
use Rattle.krieg_split.proofs.Renaming.{named_more}
use Rattle.krieg_split.proofs.firsts.firsts_of.Goals as goal

pub loop-class-preserved : goal.loop-class-preserved
loop-class-preserved c =
    let steps = c.in-Some.ensures.steps in
    record {
      named = named_more first_pair c.loop-class.firsts.items c.push.new.self.items _ _ _ _ c.in_ok-push.ensures.items (ap (map class_pair) steps.0) c.loop-class.invariant.named;
      counted = omega (arith, c.loop-class.invariant.counted, steps.1, ap length steps.0);
    }

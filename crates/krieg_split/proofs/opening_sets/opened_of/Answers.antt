use Rattle.std.proofs.Common.{map, length, ap, arith}
use Rattle.krieg_split.proofs.Common.{class_pair, opened_pair, heard_first}
use Rattle.krieg_split.proofs.Renaming.{named_more}
use Rattle.krieg_split.proofs.opening_sets.opened_of.Goals as goal

pub loop-class-preserved : goal.loop-class-preserved
loop-class-preserved c =
    let steps = c.in-Some.ensures.steps in
    record {
      named = named_more opened_pair c.loop-class.openings.items c.push.new.self.items _ _ _ _ c.in_ok-push.ensures.items (ap (λ cs. map heard_first (map class_pair cs)) steps.0) c.loop-class.invariant.named;
      counted = omega (arith, c.loop-class.invariant.counted, steps.1, ap length steps.0);
    }

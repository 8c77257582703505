use Rattle.std.proofs.Common.{rules, ap, ◌∙◌}
use Rattle.krieg_checker.proofs.Common.{is_same_side}
use Rattle.krieg_plan.proofs.Listed.{get_in}
use Rattle.krieg_checker.proofs.start.is_own_turn.Goals as goal

pub returns-else-is_empty : goal.returns-else-is_empty
returns-else-is_empty c p i =
    let here = get_in c.args.b.now 0 c.get.result c.get.ensures.value in
    ap (λ s. is_same_side s c.args.who) (c.requires.same_side p c.get.result i here) ∙ search rules

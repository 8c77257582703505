use Rattle.std.proofs.Common.{rules, ◌∙◌}
use Rattle.krieg_search.proofs.OpenedSets.{turn_of, first_in}
use Rattle.krieg_search.proofs.openings.is_own_turn.Goals as goal

pub returns-else-is_empty : goal.returns-else-is_empty
returns-else-is_empty c p i =
    let here = first_in c.args.b.now c.get.result c.get.ensures.value in
    turn_of c.args.who c.args.b.now c.get.result c.requires here p i ∙ search rules

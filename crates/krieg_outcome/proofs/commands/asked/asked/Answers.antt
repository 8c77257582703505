use Rattle.std.proofs.Common.{rules, ◌≡◌, [], subst}
use Rattle.krieg_outcome.proofs.Common.{IsPossible}
use Rattle.krieg_outcome.proofs.commands.asked.asked.Goals as goal

pub returns-then-is_empty-clause-set : goal.returns-then-is_empty-clause-set
returns-then-is_empty-clause-set c =
    let none : c.in_ok-set.set ≡ [] = search rules in
    (subst (IsPossible c.args.sheet.now) none c.in_ok-set.ensures.value, c.in_ok-set.ensures.within)

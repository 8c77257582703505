use Rattle.std.proofs.Common.{refl, subst}
use Rattle.krieg_split.proofs.Common.{first_outcomes, AreFirstMoves}
use Rattle.krieg_split.proofs.FirstMoves.{firsts, opening_sets_are}
use Rattle.krieg_split.proofs.firsts.first_replies.Goals as goal

pub returns-clause-parts : goal.returns-clause-parts
returns-clause-parts c =
    let found = subst (λ B. AreFirstMoves c.args.d B c.in_ok-ended.field-0) c.members.ensures.value c.in_ok-ended.ensures.0 in
    firsts c.args.d c.args.b.now c.in_ok-ended.field-0 c.in_ok-into_classes.field-0.items _ refl found c.in_ok-classes.ensures (c.in_ok-into_classes.ensures (first_outcomes c.args.d c.args.b.now) found.pool_part)

pub returns-clause-sets : goal.returns-clause-sets
returns-clause-sets c = λ who turn. opening_sets_are c.args.d who c.args.b.now _ turn (returns-clause-parts c)

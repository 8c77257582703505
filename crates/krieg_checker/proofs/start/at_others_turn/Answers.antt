use Rattle.std.proofs.Common.{length, refl, ap, subst, arith}
use Rattle.krieg_checker.proofs.Common.{moves, total, first_outcomes, AreFirstMoves}
use Rattle.krieg_checker.proofs.Starting.{other_started}
use Rattle.krieg_checker.proofs.start.at_others_turn.Goals as goal

pub returns : goal.returns
returns c =
    let a = c.in_ok-ended.ensures in
    let found = subst (λ B. AreFirstMoves c.args.d B c.in_ok-ended.field-0) c.members.ensures.value a.0 in (
      λ who turn. other_started c.args.d who c.args.b turn _ refl found.ended_part (c.in_ok-classes.ensures (first_outcomes c.args.d c.args.b) found.pool_part),
      omega (arith, a.1, ap (total (λ p. length (moves p))) c.members.ensures.value),
    )

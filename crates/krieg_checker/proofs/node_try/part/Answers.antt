use Rattle.std.proofs.Common.{ap, subst, arith}
use Rattle.krieg_checker.proofs.Common.{made, chess, IsGathered, whole_try}
use Rattle.krieg_checker.proofs.node_try.part.Goals as goal

pub returns : goal.returns
returns c =
    let a = c.in_ok-parts.ensures in
    let gathered = subst (λ B. IsGathered (whole_try c.args.d c.args.mv) B c.in_ok-parts.parts) c.members.ensures.value a.0 in (
      c.in_ok-parts_of.ensures c.args.d c.args.b c.args.mv c.members.ensures.ascending gathered,
      omega (arith, a.1, ap (λ B. made (chess c.args.d) B c.args.mv) c.members.ensures.value),
    )

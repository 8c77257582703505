use Rattle.std.proofs.Common.{subst}
use Rattle.krieg_split.proofs.Common.{IsGathered, whole_try}
use Rattle.krieg_split.proofs.parts.split.Goals as goal

pub returns-clause-parts : goal.returns-clause-parts
returns-clause-parts c =
    let gathered = subst (λ B. IsGathered (whole_try c.args.d c.args.mv) B c.in_ok-parts.parts) c.members.ensures.value c.in_ok-parts.ensures.0 in
    c.in_ok-parted.ensures c.args.d c.args.b.now c.args.mv c.members.ensures.ascending gathered

use Rattle.krieg_refutation.proofs.SameMoves.{same_by_eq}
use Rattle.krieg_refutation.proofs.reasons.is_same.Goals as goal

pub returns : goal.returns
returns c = same_by_eq c.args.a.now c.args.b.now c.eq.result c.eq.ensures

use Rattle.krieg_refutation.proofs.Common.{claim_of}
use Rattle.krieg_refutation.proofs.Membership.{cited_past, cited_here}
use Rattle.krieg_refutation.proofs.reasons.cited.Goals as goal

pub returns-then-place-claims : goal.returns-then-place-claims
returns-then-place-claims c = λ d. cited_past (claim_of d) c.args.claims.now c.args.place c.if-place-claims.true

pub returns : goal.returns
returns c = λ d. cited_here (claim_of d) c.args.claims.now c.args.place c.index-claims-place.result c.if-place-eq0.false c.if-place-claims.false c.index-claims-place.is

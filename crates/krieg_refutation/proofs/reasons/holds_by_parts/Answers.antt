use Rattle.std.proofs.Common.{ap, ◌∙◌, map}
use Rattle.krieg_costs.specs.Refutation as theory
use Rattle.krieg_refutation.proofs.Common.{chess, class_pair, why_of, claims_of, class_in}
use Rattle.krieg_refutation.proofs.Holding.{class_holds}
use Rattle.krieg_refutation.proofs.reasons.holds_by_parts.Goals as goal

pub returns-then-fewer-gt0 : goal.returns-then-fewer-gt0
returns-then-fewer-gt0 c = λ d B t q.
    class_holds d B t c.args.parted.now q (claims_of d c.args.before.now) c.args.fewer c.in-Class.place c.in-Class.heard c.args.why.now c.is_class_shown.result (ap why_of c.in-Class.is) c.if-fewer-gt0.true
    (c.is_class_shown.ensures d ∙ (λ i. theory.is_shown (chess d) (theory.cited (claims_of d c.args.before.now) c.in-Class.place) c.args.fewer (class_in (map class_pair (c.as_slice-classes.ensures.value i)) c.in-Class.heard)))

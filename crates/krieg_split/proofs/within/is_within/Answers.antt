use Rattle.std.proofs.Common.{◌≡◌, true, sym, subst, ◌∙◌}
use Rattle.krieg_split.proofs.Common.{position_lt}
use Rattle.krieg_costs.specs.Refutation as theory
use Rattle.krieg_split.proofs.SetParts.{within_itself}
use Rattle.krieg_split.proofs.within.is_within.Goals as goal

pub returns-then-same : goal.returns-then-same
returns-then-same c =
    let small = c.args.small.now in
    c.if-same.true ∙ sym (subst (λ S. theory.is_within position_lt small S ≡ true) (c.same.ensures.0 c.if-same.true) (within_itself small))

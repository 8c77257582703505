use Rattle.std.proofs.Common.{◌≡◌, [], List, subst}
use Rattle.krieg_costs.specs.Refutation as theory
use Rattle.krieg_refutation.proofs.Common.{chess, claims_of}
use Rattle.krieg_refutation.specs.declared.refutation.Claim.{Claim}
use Rattle.krieg_refutation.proofs.Excluding.{excluded}
use Rattle.krieg_refutation.proofs.denial.deny.Goals as goal

pub returns-then-held-clause-excludes : goal.returns-then-held-clause-excludes
returns-then-held-clause-excludes c =
    let f = c.args.f.now in
    let held = subst (λ (cs : List Claim). c.in_ok-held.held ≡ theory.claims_hold (chess f.dialect) [] (claims_of f.dialect cs)) c.as_slice.ensures.value c.in_ok-held.ensures.0 in
    excluded f c.in_ok-held.held c.in_ok-denied.denied held c.in_ok-denied.ensures c.if-held.true

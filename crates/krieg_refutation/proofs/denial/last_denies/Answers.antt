use Rattle.std.proofs.Common.{◌≡◌, ap, ◌∙◌, List, subst, sym, arith, Option, Some, IfOk}
use Rattle.krieg_refutation.proofs.Common.{is_same_side, Pos, chess, outset, claim_of, claims_of}
use Rattle.krieg_theory.specs.Sets.{In}
use Rattle.krieg_theory.proofs.Lists.{all_at}
use Rattle.krieg_costs.specs.Refutation as theory
use Rattle.krieg_refutation.specs.declared.refutation.Claim.{Claim}
use Rattle.krieg_refutation.proofs.ClaimTests.{last_at}
use Rattle.krieg_refutation.proofs.denial.last_denies.Goals as goal

pub denies-requires : goal.denies-requires
denies-requires c = λ p i. all_at (λ (p : Pos). is_same_side p.side c.args.f.now.side) c.args.f.now.list.items c.requires p (subst (In p) c.as_slice.ensures.value i)

pub returns : goal.returns
returns c =
    let d = c.args.f.now.dialect in
    let who = c.args.f.now.side in
    let n = c.args.f.now.moves in
    let last = claim_of d c.index-claims-count.result in
    let e = c.denies.ensures in
    let l = last_at (claim_of d) c.as_slice-claims.result.now c.index-claims-count.result (let z = c.if-count-eq0.false in omega arith) c.index-claims-count.is in
    subst (λ (o : Option (theory.Claim (chess d))). IfOk c.denies.result (λ yes. yes ≡ theory.denies (chess d) (outset d who) n c.args.f.now.list.items o)) (sym l ∙ ap (λ (cs : List Claim). theory.last_of (claims_of d cs)) c.as_slice-claims.ensures.value)
    (subst (λ (L : List Pos). IfOk c.denies.result (λ yes. yes ≡ theory.denies (chess d) (outset d who) n L (Some last))) c.as_slice.ensures.value e)

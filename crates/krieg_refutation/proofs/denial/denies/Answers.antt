use Rattle.std.proofs.Common.{◌≡◌, ◌&&◌, ◌∙◌}
use Rattle.krieg_refutation.proofs.Common.{within_opening}
use Rattle.krieg_refutation.proofs.ClaimTests.{at_least}
use Rattle.krieg_refutation.proofs.denial.denies.Goals as goal

pub returns : goal.returns
returns c =
    let within : c.in_ok-within.within ≡ within_opening c.args.d c.args.who c.args.list.now c.args.claim.now.set = c.in_ok-within.ensures c.args.who c.requires in
    let enough = at_least c.args.moves c.args.claim.now.moves in
    c.both.ensures ∙ (λ k. enough k && within k)

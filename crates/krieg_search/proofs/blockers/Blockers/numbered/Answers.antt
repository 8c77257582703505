use Rattle.std.proofs.Common.{subst, arith}
use Rattle.krieg_theory.proofs.Lists.{in_map}
use Rattle.krieg_search.proofs.Common.{In}
use Rattle.krieg_search.specs.declared.blockers.Link.{Link}
use Rattle.krieg_search.proofs.Checking.{item_in}
use Rattle.krieg_search.proofs.blockers.Blockers.numbered.Goals as goal

pub returns-then-place-len : goal.returns-then-place-len
returns-then-place-len c =
    let link = c.index.result.now in
    let inside = item_in c.self.inside.found.items c.in_ok-place.place link (omega (arith, c.self.inside.found.ok.0, c.len.ensures, c.if-place-len.true)) c.index.ensures in
    subst (In link.blocker) c.self.view_is (in_map (λ (l : Link). l.blocker) c.self.inside.found.items link inside)

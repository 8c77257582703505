use Rattle.std.proofs.Common.{map, refl, ap, ◌∙◌}
use Rattle.krieg_checker.proofs.Common.{classes_in, opened, silent}
use Rattle.krieg_checker.proofs.Starting.{own_started}
use Rattle.krieg_checker.proofs.start.at_own_turn.Goals as goal

pub returns : goal.returns
returns c =
    let outcomes = map (opened c.args.d silent) in
    let classes = c.in_ok-classes.ensures (outcomes c.members.result.now) c.in_ok-pool.ensures ∙ ap (λ B. classes_in (outcomes B)) c.members.ensures.value in
    (λ who turn. own_started c.args.d who c.args.b turn _ refl refl classes, refl)

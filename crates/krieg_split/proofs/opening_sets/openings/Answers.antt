use Rattle.std.proofs.Common.{ap, map, ◌∙◌}
use Rattle.std.proofs.lemmas.Result.{IfOk-weaker}
use Rattle.krieg_split.proofs.Common.{opened, classes_in, heard_first, silent}
use Rattle.krieg_split.proofs.Renaming.{opening_sets_are}
use Rattle.krieg_split.proofs.opening_sets.openings.Goals as goal

pub returns-clause-sets : goal.returns-clause-sets
returns-clause-sets c =
    let outcomes = map (opened c.args.d silent) in
    let classed = c.in_ok-into_classes.ensures (outcomes c.members.result.now) c.in_ok-pool.ensures ∙ ap (λ B. classes_in (outcomes B)) c.members.ensures.value in
    IfOk-weaker c.opened_of.result _ _ (λ v named who turn. opening_sets_are c.args.d who c.args.b.now v.items (named ∙ ap (map heard_first) classed) turn) c.opened_of.ensures

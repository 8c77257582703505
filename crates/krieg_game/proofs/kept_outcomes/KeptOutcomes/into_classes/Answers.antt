use Rattle.std.proofs.Common.{ap, ◌∙◌, rules, ◌≡◌}
use Rattle.std.proofs.lemmas.Result.{IfOk-weaker}
use Rattle.krieg_game.proofs.Common.{classes_in, outcomes_in}
use Rattle.krieg_game.proofs.Pools.{held_classes}
use Rattle.krieg_game.proofs.Buckets.{bucket_classes}
use Rattle.krieg_game.proofs.kept_outcomes.KeptOutcomes.into_classes.Goals as goal

pub returns : goal.returns
returns c =
    let view : outcomes_in c.self.inside.buckets.items ≡ c.args.self = search rules in
    IfOk-weaker c.classes_of.result _ _ (λ v is os h. is ∙ bucket_classes c.self.inside.buckets.items c.self.invariant ∙ ap classes_in view ∙ held_classes c.args.self os h) c.classes_of.ensures

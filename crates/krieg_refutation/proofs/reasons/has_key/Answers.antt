use Rattle.std.proofs.Common.{ap, ◌∙◌}
use Rattle.std.specs.Ordering.{is_eq, ordering_then}
use Rattle.krieg_refutation.proofs.Common.{class_pair}
use Rattle.krieg_game.proofs.KeyLaws.{key_is}
use Rattle.krieg_refutation.proofs.reasons.has_key.Goals as goal

pub returns : goal.returns
returns c =
    let a = c.compare.ensures in
    let b = c.compare-2.ensures in
    key_is c.is_eq.result (class_pair c.args.c.now).0 (c.args.own.now, c.args.reply.now) (c.is_eq.ensures ∙ ap is_eq (c.then.ensures ∙ (λ i. ordering_then (a i) (b i))))

use Rattle.std.proofs.Common.{◌∷◌, [], ◌++◌, sym, ap, subst, ◌∙◌}
use Rattle.std.specs.List.{All}
use Rattle.std.proofs.lemmas.List.Elements.{All-push}
use Rattle.krieg_outcome.proofs.Common.{IsValid}
use Rattle.krieg_belief.proofs.GivenGames.{one_more}
use Rattle.krieg_outcome.proofs.commands.asked.listed.Goals as goal

pub loop-i-preserved : goal.loop-i-preserved
loop-i-preserved c =
    let pushed = c.in_ok-push.ensures.items in (
      pushed ∙ ap (λ xs. xs ++ c.get.result ∷ []) c.loop-i.invariant.0 ∙ sym (one_more c.args.set.now c.loop-i.i c.get.result c.get.ensures.value),
      subst (All IsValid) (sym pushed) (All-push IsValid c.loop-i.list.items c.get.result c.loop-i.invariant.1 c.get.ensures.valid),
    )

use Rattle.std.proofs.Common.{ap, ◌∙◌}
use Rattle.std.specs.Ordering.{is_eq}
use Rattle.krieg_belief.proofs.Common.{told, words_cmp}
use Rattle.krieg_belief.proofs.steps.has_opening.Goals as goal

pub returns : goal.returns
returns c = c.is_eq.ensures ∙ ap is_eq (c.compare.ensures ∙ ap (words_cmp c.args.w.now) (c.told.ensures.value ∙ ap (told c.args.d) c.opening.ensures.value))

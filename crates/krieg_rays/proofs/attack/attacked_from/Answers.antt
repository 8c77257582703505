use Rattle.std.proofs.Common.{◌∙◌}
use Rattle.std.specs.Prelude.{Some}
use Rattle.krieg_rays.proofs.Attacking.{reaches_attacks}
use Rattle.krieg_rays.proofs.attack.attacked_from.Goals as goal

pub returns : goal.returns
returns c = λ k h. c.attacked_over.ensures k h ∙ reaches_attacks c.args.b.now c.occupied.result (Some c.args.man) c.args.from k c.occupied.ensures

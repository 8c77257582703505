use Rattle.std.proofs.Common.{◌∙◌, sym}
use Rattle.krieg_moves.proofs.Safety.{illegal_from_nobody}
use Rattle.krieg_moves.proofs.legality.after_if_legal.Goals as goal

pub returns-in-None-clause-illegal : goal.returns-in-None-clause-illegal
returns-in-None-clause-illegal c = illegal_from_nobody c.args.p.now c.args.mv (sym c.man_at.ensures.value ∙ c.in-None.is)

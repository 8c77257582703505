use Rattle.std.proofs.Common.{◌∙◌, sym}
use Rattle.krieg_moves.proofs.Safety.{illegal_off}
use Rattle.krieg_moves.proofs.replies.replies_if_legal_by.Goals as goal

pub returns-then-not-is_candidate-clause-illegal : goal.returns-then-not-is_candidate-clause-illegal
returns-then-not-is_candidate-clause-illegal c = illegal_off c.args.p.now c.args.mv.now (sym c.is_candidate.ensures ∙ c.if-not-is_candidate.true)

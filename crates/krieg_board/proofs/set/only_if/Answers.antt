use Rattle.std.proofs.Common.{◌∙◌, sym, ap, ◌&&◌, ◌==◌}
use Rattle.krieg_board.proofs.SetLemmas.{has_zero}
use Rattle.krieg_board.proofs.set.only_if.Goals as goal

pub returns-else-here : goal.returns-else-here
returns-else-here c = λ k h. has_zero k ∙ sym (ap (λ x. x && k == c.args.s) c.if-here.false)

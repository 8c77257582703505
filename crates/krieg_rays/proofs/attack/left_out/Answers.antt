use Rattle.std.proofs.Common.{◌∙◌, ap, not, ◌&&◌, ◌-◌}
use Rattle.krieg_rays.proofs.Common.{has}
use Rattle.krieg_board.proofs.SetLemmas.{has_and, has_not}
use Rattle.krieg_rays.proofs.attack.left_out.Goals as goal

pub returns : goal.returns
returns c = λ k h.
    has_and c.args.set (18446744073709551615 - c.only.result) k
    ∙ ap (λ x. has c.args.set k && x) (has_not c.only.result k c.only.type_inv h ∙ ap not (c.only.ensures k h))

use Rattle.std.proofs.Common.{◌∙◌, ap, not, ◌&&◌, ◌-◌}
use Rattle.krieg_moves.proofs.Common.{has}
use Rattle.krieg_board.proofs.SetLemmas.{has_and, has_not}
use Rattle.krieg_moves.proofs.guard.safe_squares.Goals as goal

pub returns : goal.returns
returns c = λ t h.
    has_and c.args.squares (18446744073709551615 - c.attacked_by_without.result) t
    ∙ ap (λ x. has c.args.squares t && x) (has_not c.attacked_by_without.result t c.attacked_by_without.type_inv h ∙ ap not (c.attacked_by_without.ensures t h))

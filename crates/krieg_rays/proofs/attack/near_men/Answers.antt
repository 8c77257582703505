use Rattle.std.proofs.Common.{◌∙◌, ap, ◌&&◌, ◌||◌}
use Rattle.krieg_board.proofs.SetLemmas.{has_and, has_or}
use Rattle.krieg_rays.proofs.Common.{Pawn, goes}
use Rattle.krieg_rays.proofs.attack.near_men.Goals as goal

pub returns : goal.returns
returns c = λ k h.
    simp (has_and, has_or)
    (λ j. ((c.pawn_attacks.ensures k h ∙ ap (λ o. goes Pawn o c.args.s k) c.other.ensures) j && c.sets-sets.ensures.pawns k h j)
    || ((c.knight_attacks.ensures k h j && c.sets-sets.ensures.knights k h j) || (c.king_attacks.ensures k h j && c.sets-sets.ensures.kings k h j)))

use Rattle.std.proofs.Common.{◌∙◌, ◌&&◌, bit_and, arith}
use Rattle.std.proofs.lemmas.Nat.{and_le_l}
use Rattle.krieg_board.proofs.SetLemmas.{has_and}
use Rattle.krieg_rays.proofs.Attacking.{clear_set}
use Rattle.krieg_moves.proofs.candidate.is_clear.Goals as goal

pub returns : goal.returns
returns c =
    clear_set c.args.b.now c.args.from c.args.to (bit_and c.between_at.result c.occupied.result)
    (omega (arith, and_le_l c.between_at.result c.occupied.result, c.between_at.type_inv))
    (λ s h. has_and c.between_at.result c.occupied.result s ∙ (λ i. c.between_at.ensures s h i && c.occupied.ensures s h i))

use Rattle.std.proofs.Common.{◌∙◌, ◌&&◌, ◌-◌, not, ap}
use Rattle.std.specs.Prelude.{None, slice_set}
use Rattle.krieg_moves.proofs.Common.{other, is_attacked}
use Rattle.krieg_board.proofs.SetLemmas.{has_and, has_not}
use Rattle.krieg_moves.proofs.target.king_steps.Goals as goal

pub returns : goal.returns
returns c = λ t h.
    c.safe_squares.ensures t h
    ∙ (λ i. has_and c.king_attacks.result (18446744073709551615 - c.men_of.result) t i && not (is_attacked (slice_set c.args.b.now c.args.from None) t (c.other-by.ensures i)))
    ∙ (λ i. (c.king_attacks.ensures t h i && (has_not c.men_of.result t c.men_of.type_inv h ∙ ap not (c.men_of.ensures t h)) i)
    && not (is_attacked (slice_set c.args.b.now c.args.from None) t (other c.args.side)))

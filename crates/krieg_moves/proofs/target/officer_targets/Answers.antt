use Rattle.std.proofs.Common.{◌∙◌, ◌&&◌, not, ap, bit_and, ◌-◌, arith}
use Rattle.std.specs.Prelude.{Some, None, slice_set}
use Rattle.krieg_moves.proofs.Common.{other, man_at, is_of, man_attacks, is_answered}
use Rattle.krieg_board.proofs.SetLemmas.{has_and, has_not}
use Rattle.krieg_moves.proofs.Going.{officer_goes}
use Rattle.krieg_moves.proofs.target.officer_targets.Goals as goal

pub returns : goal.returns
returns c = λ t h.
    has_and (bit_and c.attacked_from-attacked.result (18446744073709551615 - c.men_of.result)) c.answers_from.result t
    ∙ (λ i. has_and c.attacked_from-attacked.result (18446744073709551615 - c.men_of.result) t i
    && (c.answers_from.ensures t h ∙ (λ j. is_answered (slice_set c.args.p.now.board (c.number-2.ensures.value j) None) (other c.args.p.now.side) c.args.guard.now.king t)) i)
    ∙ (λ i. ((c.attacked_from-attacked.ensures t h ∙ (λ j. man_attacks (c.bits-bits.ensures.value j) (Some c.args.man) (c.number.ensures.value j) t)) i
    && (has_not c.men_of.result t c.men_of.type_inv h ∙ ap not (c.men_of.ensures t h ∙ (λ j. is_of (c.side-side.ensures.value j) (man_at (c.bits-bits.ensures.value j) t)))) i)
    && is_answered (slice_set c.args.p.now.board c.args.from None) (other c.args.p.now.side) c.args.guard.now.king t)
    ∙ officer_goes c.args.p.now c.args.from t c.args.guard.now.king c.args.man c.side-side.ensures.valid (omega (arith, c.number.ensures.value, c.number.ensures.below)) h c.requires.guard.inside c.requires.guard.king c.requires.man c.requires.own c.requires.officer

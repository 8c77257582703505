use Rattle.std.proofs.Common.{◌∙◌, ◌&&◌, ◌||◌, sym, ap, bit_and}
use Rattle.std.specs.Prelude.{Some, None, slice_set}
use Rattle.krieg_moves.proofs.Common.{other, man_at, is_of, man_attacks, is_answered}
use Rattle.krieg_board.proofs.SetLemmas.{has_and, has_or}
use Rattle.krieg_moves.proofs.Going.{attacks_is}
use Rattle.krieg_moves.proofs.target.captures.Goals as goal

pub passing-passing-requires-clause-attacked : goal.passing-passing-requires-clause-attacked
passing-passing-requires-clause-attacked c = λ t h.
    c.attacked_from-attacked.ensures t h
    ∙ (λ i. man_attacks (c.bits-bits.ensures.value i) (Some c.args.man) (c.number.ensures.value i) t)
    ∙ sym (attacks_is c.args.p.now c.args.from t c.args.man c.requires.man)

pub returns : goal.returns
returns c = λ t h.
    has_or (bit_and (bit_and c.attacked_from-attacked.result c.men_of.result) c.answers_from.result) c.passing-passing.result t
    ∙ (λ i. (has_and (bit_and c.attacked_from-attacked.result c.men_of.result) c.answers_from.result t
    ∙ (λ j. (has_and c.attacked_from-attacked.result c.men_of.result t
    ∙ (λ k. (c.attacked_from-attacked.ensures t h ∙ (λ m. man_attacks (c.bits-bits.ensures.value m) (Some c.args.man) (c.number.ensures.value m) t) ∙ sym (attacks_is c.args.p.now c.args.from t c.args.man c.requires.man)) k
    && (c.men_of.ensures t h ∙ (λ m. is_of ((c.other-by.ensures ∙ ap other c.side-side.ensures.value) m) (man_at (c.bits-bits.ensures.value m) t))) k)) j
    && (c.answers_from.ensures t h ∙ (λ k. is_answered (slice_set c.args.p.now.board (c.number-2.ensures.value k) None) (other c.args.p.now.side) c.args.guard.now.king t)) j)) i
    || c.passing-passing.ensures t h i)

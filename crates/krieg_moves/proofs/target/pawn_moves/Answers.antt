use Rattle.std.proofs.Common.{◌∙◌, ◌&&◌, ◌==◌, ◌-◌, not, sym, ap, arith}
use Rattle.std.specs.Prelude.{is_some}
use Rattle.krieg_moves.proofs.Common.{rank_of, pawn_rank, man_at, is_ahead, crossed}
use Rattle.krieg_board.proofs.SetLemmas.{has_and, has_not, has_zero}
use Rattle.krieg_moves.proofs.Steps.{steps_ahead, steps_blocked}
use Rattle.krieg_moves.proofs.target.pawn_moves.Goals as goal

pub returns-then-is_blocked : goal.returns-then-is_blocked
returns-then-is_blocked c = λ t h.
    has_zero t ∙ steps_blocked c.args.b.now c.args.side c.args.from t (omega (arith, c.number-from.ensures.value, c.number-from.ensures.below)) h
    (sym (c.is_blocked.ensures ∙ (λ i. rank_of (c.number-from.ensures.value i) == pawn_rank c.args.side && is_some (man_at c.args.b.now (crossed c.args.side (c.number-from.ensures.value i))))) ∙ c.if-is_blocked.true)

pub returns : goal.returns
returns c = λ t h.
    has_and c.pawn_steps.result (18446744073709551615 - c.occupied-occupied.result) t
    ∙ (λ i. (c.pawn_steps.ensures t h ∙ (λ j. is_ahead c.args.side (c.number-from.ensures.value j) t)) i
    && (has_not c.occupied-occupied.result t c.occupied-occupied.type_inv h ∙ ap not (c.occupied-occupied.ensures t h)) i)
    ∙ steps_ahead c.args.b.now c.args.side c.args.from t (omega (arith, c.number-from.ensures.value, c.number-from.ensures.below)) h
    (sym (c.is_blocked.ensures ∙ (λ i. rank_of (c.number-from.ensures.value i) == pawn_rank c.args.side && is_some (man_at c.args.b.now (crossed c.args.side (c.number-from.ensures.value i))))) ∙ c.if-is_blocked.false)

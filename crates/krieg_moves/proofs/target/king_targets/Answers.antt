use Rattle.std.proofs.Common.{◌∙◌, ◌||◌, sym, ap, bit_or, arith}
use Rattle.krieg_board.proofs.SetLemmas.{has_or}
use Rattle.krieg_moves.proofs.Common.{king_square}
use Rattle.krieg_moves.proofs.Going.{king_goes, king_steps_only}
use Rattle.krieg_moves.proofs.LoneKings.{step_found}
use Rattle.krieg_moves.proofs.target.king_targets.Goals as goal

pub returns-then-number-king_square : goal.returns-then-number-king_square
returns-then-number-king_square c = λ t h.
    step_found c.args.p.now c.bits.result.now c.side.result c.number.result c.args.from t c.king_steps-steps.result c.args.man c.bits.ensures.value c.side.ensures.value c.number.ensures.value c.requires.king (c.king_steps-steps.ensures t h)
    ∙ king_steps_only c.args.p.now c.args.from t c.args.man c.side.ensures.valid (omega (arith, c.number.ensures.value, c.number.ensures.below)) h c.requires.man c.requires.own c.requires.king
    (λ e. c.if-number-king_square.true (c.number-2.ensures.value ∙ e ∙ sym (c.king_square.ensures.value ∙ ap king_square c.side-2.ensures.value)))

pub returns : goal.returns
returns c = λ t h.
    let step = step_found c.args.p.now c.bits.result.now c.side.result c.number.result c.args.from t c.king_steps-steps.result c.args.man c.bits.ensures.value c.side.ensures.value c.number.ensures.value c.requires.king (c.king_steps-steps.ensures t h) in
    has_or (bit_or c.king_steps-steps.result c.castle.result) c.castle-2.result t
    ∙ (λ i. (has_or c.king_steps-steps.result c.castle.result t ∙ (λ j. step j || c.castle.ensures t h j)) i || c.castle-2.ensures t h i)
    ∙ king_goes c.args.p.now c.args.from t c.args.man c.side.ensures.valid (omega (arith, c.number.ensures.value, c.number.ensures.below)) h c.requires.man c.requires.own c.requires.king

use Rattle.std.proofs.Common.{◌∙◌, ◌&&◌, ◌||◌, arith, bit_and}
use Rattle.std.specs.Prelude.{None, slice_set}
use Rattle.krieg_moves.proofs.Common.{other, is_answered, is_step, is_double_step, plain_move}
use Rattle.krieg_board.proofs.SetLemmas.{has_and, has_or}
use Rattle.krieg_moves.proofs.PawnGoing.{forward_or_captures}
use Rattle.krieg_moves.proofs.target.pawn_targets.Goals as goal

pub returns : goal.returns
returns c = λ t h.
    has_or (bit_and c.pawn_moves-forward.result c.answers_from.result) c.captures-captures.result t
    ∙ (λ i. (has_and c.pawn_moves-forward.result c.answers_from.result t
    ∙ (λ j. (c.pawn_moves-forward.ensures t h ∙ (λ k. is_step (c.bits.ensures.value k) (c.side.ensures.value k) (plain_move c.args.from t)
    || is_double_step (c.bits.ensures.value k) (c.side.ensures.value k) (plain_move c.args.from t))) j
    && (c.answers_from.ensures t h ∙ (λ k. is_answered (slice_set c.args.p.now.board (c.number.ensures.value k) None) (other c.args.p.now.side) c.args.guard.now.king t)) j)) i
    || c.captures-captures.ensures t h i)
    ∙ forward_or_captures c.args.p.now c.args.from t c.args.guard.now.king c.args.man c.side.ensures.valid (omega (arith, c.number.ensures.value, c.number.ensures.below)) h c.requires.guard.inside c.requires.guard.king c.requires.man c.requires.own c.requires.pawn

use Rattle.std.proofs.Common.{◌∙◌, ◌<◌, ◌&&◌, ◌||◌, arith, bit_and}
use Rattle.krieg_moves.proofs.Common.{man_at, Pawn, is_step, is_double_step, plain_move}
use Rattle.krieg_board.proofs.SetLemmas.{has_and, has_or}
use Rattle.krieg_moves.proofs.PawnGoing.{forward_or_captures, free_answered}
use Rattle.krieg_moves.proofs.Shapes.{found_man}
use Rattle.krieg_moves.proofs.target.targets_of_free_pawn.Goals as goal

pub returns : goal.returns
returns c = λ t h.
    let p = c.args.p.now in
    let from = c.args.from in
    let below : from < 64 = omega (arith, c.number-from.ensures.value, c.number-from.ensures.below) in
    let (man, is, own, pawn) = found_man p.side Pawn (man_at p.board from) c.requires.free.pawn in
    has_or (bit_and c.pawn_moves-forward.result c.args.guard.now.answers) c.free_captures.result t
    ∙ (λ i. (has_and c.pawn_moves-forward.result c.args.guard.now.answers t
    ∙ (λ j. (c.pawn_moves-forward.ensures t h ∙ (λ k. is_step (c.bits.ensures.value k) (c.side.ensures.value k) (plain_move from t)
    || is_double_step (c.bits.ensures.value k) (c.side.ensures.value k) (plain_move from t))) j
    && free_answered p c.args.guard.now from t c.side.ensures.valid c.requires.guard below h c.requires.free.pawn c.requires.free.free j)) i
    || c.free_captures.ensures t h i)
    ∙ forward_or_captures p from t c.args.guard.now.king man c.side.ensures.valid below h c.requires.guard.inside c.requires.guard.king is own pawn

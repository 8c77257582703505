use Rattle.std.proofs.Common.{◌∙◌, ◌&&◌, bit_and}
use Rattle.krieg_board.proofs.SetLemmas.{has_and}
use Rattle.krieg_moves.proofs.PawnWays.{two_ahead_has}
use Rattle.krieg_moves.proofs.Common.{has}
use Rattle.krieg_moves.proofs.ways.two_ahead_in.Goals as goal

pub returns : goal.returns
returns c = λ k h.
    let crossed = bit_and c.args.empty c.ahead_in.result in
    has_and c.pawn_rank_squares.result c.ahead_in-2.result k
    ∙ (λ i. c.pawn_rank_squares.ensures k h i && has c.ahead_in-2.result k)
    ∙ two_ahead_has c.args.side c.args.set crossed c.ahead_in-2.result c.args.empty k c.ranges.set.fits h
    (λ j l. has_and c.args.empty c.ahead_in.result j ∙ (λ i. has c.args.empty j && c.ahead_in.ensures j l i))
    (c.ahead_in-2.ensures k h)

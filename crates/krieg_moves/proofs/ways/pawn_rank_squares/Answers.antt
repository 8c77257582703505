use Rattle.std.proofs.Common.{◌∙◌, ap, sym, ◌==◌}
use Rattle.krieg_moves.proofs.Common.{rank_of, pawn_rank}
use Rattle.krieg_moves.proofs.PawnWays.{second_rank, seventh_rank}
use Rattle.krieg_moves.proofs.ways.pawn_rank_squares.Goals as goal

pub returns-in-White : goal.returns-in-White
returns-in-White c = λ k h. second_rank k h ∙ sym (ap (λ side. rank_of k == pawn_rank side) c.in-White.is)

pub returns-in-Black : goal.returns-in-Black
returns-in-Black c = λ k h. seventh_rank k h ∙ sym (ap (λ side. rank_of k == pawn_rank side) c.in-Black.is)

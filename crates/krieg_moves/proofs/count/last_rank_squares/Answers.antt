use Rattle.std.proofs.Common.{◌∙◌, ap, sym, ◌==◌}
use Rattle.krieg_board.specs.Squares as squares
use Rattle.krieg_moves.proofs.Counting.{eighth_rank, first_rank}
use Rattle.krieg_moves.proofs.count.last_rank_squares.Goals as goal

pub returns-in-White : goal.returns-in-White
returns-in-White c = λ t h. eighth_rank t h ∙ sym (ap (λ side. squares.rank_of t == squares.last_rank side) c.in-White.is)

pub returns-in-Black : goal.returns-in-Black
returns-in-Black c = λ t h. first_rank t h ∙ sym (ap (λ side. squares.rank_of t == squares.last_rank side) c.in-Black.is)

use Rattle.std.proofs.Common.{◌∙◌, ap, sym}
use Rattle.krieg_moves.proofs.Common.{has, ahead_west}
use Rattle.krieg_moves.proofs.PawnWays.{white_west, black_west}
use Rattle.krieg_moves.proofs.ways.ahead_west_in.Goals as goal

pub returns-in-White : goal.returns-in-White
returns-in-White c = λ k h. white_west c.args.set k c.ranges.set.fits h ∙ sym (ap (λ side. has c.args.set (ahead_west side k)) c.in-White.is)

pub returns-in-Black : goal.returns-in-Black
returns-in-Black c = λ k h. black_west c.args.set k c.ranges.set.fits h ∙ sym (ap (λ side. has c.args.set (ahead_west side k)) c.in-Black.is)

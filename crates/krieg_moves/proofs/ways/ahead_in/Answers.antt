use Rattle.std.proofs.Common.{◌∙◌, ap, sym}
use Rattle.krieg_moves.proofs.Common.{has, ahead}
use Rattle.krieg_moves.proofs.PawnWays.{white_ahead, black_ahead}
use Rattle.krieg_moves.proofs.ways.ahead_in.Goals as goal

pub returns-in-White : goal.returns-in-White
returns-in-White c = λ k h. white_ahead c.args.set k ∙ sym (ap (λ side. has c.args.set (ahead side k)) c.in-White.is)

pub returns-in-Black : goal.returns-in-Black
returns-in-Black c = λ k h. black_ahead c.args.set k c.ranges.set.fits h ∙ sym (ap (λ side. has c.args.set (ahead side k)) c.in-Black.is)

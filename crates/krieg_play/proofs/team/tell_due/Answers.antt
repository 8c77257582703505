use Rattle.krieg_play.proofs.SideCalls.{tells_line}
use Rattle.krieg_play.proofs.team.tell_due.Goals as goal

pub returns-in-Some-clause-tells : goal.returns-in-Some-clause-tells
returns-in-Some-clause-tells g c = tells_line _ _ _ _ _ _ _ c.in-Some.is c.tell_side.ensures.tells

use Rattle.krieg_play.proofs.SideCalls.{leaves, ends_as}
use Rattle.krieg_play.proofs.team.relieve_left.Goals as goal

pub returns-then-len-gt1-clause-ends : goal.returns-then-len-gt1-clause-ends
returns-then-len-gt1-clause-ends g c = ends_as _ _ _ _ _ _ c.relieved_turn.ensures (leaves _ _ _ _ _ c.relieve.ensures.relieves)

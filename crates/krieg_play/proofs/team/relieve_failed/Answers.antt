use Rattle.krieg_play.proofs.SideCalls.{relieves_failed}
use Rattle.krieg_play.proofs.team.relieve_failed.Goals as goal

pub returns-then-len-gt1-clause-relieves : goal.returns-then-len-gt1-clause-relieves
returns-then-len-gt1-clause-relieves g c = relieves_failed _ _ _ _ _ c.relieve.ensures.relieves

use Rattle.std.proofs.Common.{◌<◌, length, arith}
use Rattle.krieg_play.proofs.SideCalls.{relieves_once}
use Rattle.krieg_play.proofs.team.relieve_once.Goals as goal

pub returns-clause-relieves : goal.returns-clause-relieves
returns-clause-relieves g c =
    let h : 0 < length c.step_aside.new.seats.items = omega arith in
    relieves_once _ _ _ _ _ _ _ _ c.step_aside.ensures.moved.0 c.step_aside.ensures.moved.1 c.step_aside.ensures.moved.2 h c.tell_all_first.ensures

use Rattle.std.proofs.Common.{rules, Ok, Err}
use Rattle.krieg_seats.specs.declared.seat.SeatFault.TheVariants.{NoMemory}
use Rattle.krieg_play.proofs.SideCalls.{tells, tells_as, tells_failed}
use Rattle.krieg_play.proofs.team.tell_side.Goals as goal

pub returns-in-Ok-clause-tells : goal.returns-in-Ok-clause-tells
returns-in-Ok-clause-tells g c = tells_as _ c.tell_first.result (Ok tt) _ _ _ _ (search rules) (tells _ _ _ _ _ _ _ c.tell_first.ensures)

pub returns-in-Err-NoMemory-clause-tells : goal.returns-in-Err-NoMemory-clause-tells
returns-in-Err-NoMemory-clause-tells g c = tells_as _ c.tell_first.result (Err NoMemory) _ _ _ _ (cc) (tells _ _ _ _ _ _ _ c.tell_first.ensures)

pub returns-in-Err-Failed-clause-tells : goal.returns-in-Err-Failed-clause-tells
returns-in-Err-Failed-clause-tells g c = tells_failed _ c.tell_first.result _ _ _ _ _ _ (cc) (tells _ _ _ _ _ _ _ c.tell_first.ensures) c.relieve_failed.ensures.relieves

use Rattle.krieg_play.proofs.SideCalls.{asks_try, asks_short, asks_failed, asks_leave, takes_as}
use Rattle.krieg_play.proofs.team.ask_side.Goals as goal

pub returns-in-Ok-Try-clause-takes : goal.returns-in-Ok-Try-clause-takes
returns-in-Ok-Try-clause-takes g c = asks_try _ _ _ _ _ _ _ (cc) c.ask_first.ensures

pub returns-in-Ok-Leave-clause-takes : goal.returns-in-Ok-Leave-clause-takes
returns-in-Ok-Leave-clause-takes g c = asks_leave _ _ _ _ _ _ _ _ (cc) c.ask_first.ensures c.relieve_left.ensures.ends

pub returns-in-Err-NoMemory-clause-takes : goal.returns-in-Err-NoMemory-clause-takes
returns-in-Err-NoMemory-clause-takes g c = asks_short _ _ _ _ _ _ (cc) c.ask_first.ensures

pub returns-in-Err-Failed-clause-takes : goal.returns-in-Err-Failed-clause-takes
returns-in-Err-Failed-clause-takes g c = takes_as _ _ _ _ _ _ c.relieved_turn.ensures (asks_failed _ _ _ _ _ _ _ _ (cc) c.ask_first.ensures c.relieve_failed.ensures.relieves)

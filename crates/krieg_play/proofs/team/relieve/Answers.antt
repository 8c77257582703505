use Rattle.std.proofs.Common.{arith, rules}
use Rattle.krieg_play.proofs.SideCalls.{relieves_again}
use Rattle.krieg_play.proofs.team.relieve.Goals as goal

pub loop-seats-preserved : goal.loop-seats-preserved
loop-seats-preserved g c = record {
  relieves = relieves_again _ _ _ _ _ _ _ (search rules) c.loop-seats.invariant.relieves c.relieve_once-answer-in-loop-seats.ensures.relieves;
  fewer = omega arith;
  ready = (omega arith, omega arith);
}

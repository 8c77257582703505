-- The seats that were relieved so far are one or more, and another sits.
use Rattle.std.proofs.Common.{◌<◌, vec_len}
use Rattle.krieg_play.proofs.Common.{team_of, IsGone, lines_to, IsReady, Relieves}
use Rattle.krieg_play.proofs.team.relieve.Given as goal

abbrev pub invariant-loop-seats : goal.invariant-loop-seats
invariant-loop-seats g l = record {
  relieves : Relieves (λ b. (goal.Seat-dyn g (b.vtable, b.value)).account b.value) IsGone l.answer
      (team_of l.fn.seats l.fn.out) (team_of l.seats l.out) (lines_to l.start l.who l.log);
  fewer : vec_len l.seats < vec_len l.fn.seats;
  ready : IsReady l.seats l.out;
}

abbrev pub decreases-loop-seats : goal.decreases-loop-seats
decreases-loop-seats g l = vec_len l.seats

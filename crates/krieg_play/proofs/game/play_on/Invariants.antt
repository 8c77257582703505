-- What was under way when the loop began is under way; each turn uses an ask or a seat.
use Rattle.std.proofs.Common.{◌+◌, ◌≤◌, vec_len, Ok, None}
use Rattle.krieg_play.proofs.Common.{IsReady, Passes, roster_sides}
use Rattle.krieg_play.proofs.game.play_on.Given as goal

abbrev pub invariant-turns : goal.invariant-turns
invariant-turns g l = record {
  passes : Passes (λ b. (goal.Seat-dyn g (b.vtable, b.value)).account b.value) (Ok None) l.start l.seats
      (roster_sides l.initial.white l.initial.black) (roster_sides l.white l.black)
      l.initial.game l.game;
  white : IsReady l.white.seats l.white.out;
  black : IsReady l.black.seats l.black.out;
  seats : vec_len l.white.seats + vec_len l.black.seats ≤ l.seats;
}

abbrev pub decreases-turns : goal.decreases-turns
decreases-turns g l = l.game.spare + (vec_len l.white.seats + vec_len l.black.seats)

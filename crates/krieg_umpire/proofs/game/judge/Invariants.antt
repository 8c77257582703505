use Rattle.std.proofs.Common.{◌≡◌, ◌+◌, ◌++◌, length, drop}
use Rattle.krieg_umpire.specs.Games.{judge, last}
use Rattle.krieg_umpire.proofs.game.judge.Given as goal

-- what is judged so far, and what the other tries give from here, is the whole game; and each of them has its place
abbrev pub invariant-loop-event : goal.invariant-loop-event
invariant-loop-event l = record {
  log : l.game.log ++ judge l.game.position (drop l.event-index l.events) ≡ judge l.start l.events;
  position : last l.game.position (drop l.event-index l.events) ≡ last l.start l.events;
  spare : l.game.spare + l.event-index ≡ length l.events;
}

use Rattle.std.proofs.Common.{◌≡◌, take}
use Rattle.krieg_umpire.proofs.Common.{HasLines, judge, last, heard_lines}
use Rattle.krieg_umpire.proofs.telling.put_tries.Given as goal

abbrev pub invariant-loop-event : goal.invariant-loop-event
invariant-loop-event l = record {
  told : HasLines l.initial.text l.text (heard_lines l.d l.who (judge l.initial.game.position (take l.event-index l.events)));
  stands : l.game.position ≡ last l.initial.game.position (take l.event-index l.events);
}

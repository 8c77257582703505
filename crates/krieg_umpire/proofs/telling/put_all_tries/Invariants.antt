use Rattle.std.proofs.Common.{◌≡◌, map, take}
use Rattle.std.specs.List.{flat_map}
use Rattle.krieg_umpire.proofs.Common.{HasLines, judge, last, both_lines, marked_line}
use Rattle.krieg_umpire.proofs.telling.put_all_tries.Given as goal

abbrev pub invariant-loop-event : goal.invariant-loop-event
invariant-loop-event l = record {
  told : HasLines l.initial.text l.text (map (marked_line l.d) (flat_map (both_lines l.d) (judge l.initial.game.position (take l.event-index l.events))));
  stands : l.game.position ≡ last l.initial.game.position (take l.event-index l.events);
}

use Rattle.std.proofs.Common.{map, take}
use Rattle.krieg_belief.proofs.Common.{HasLines, event_line}
use Rattle.krieg_belief.proofs.writing.put_events.Given as goal

abbrev pub invariant-loop-event : goal.invariant-loop-event
invariant-loop-event l = HasLines l.initial.text l.text (map event_line (take l.event-index l.events))

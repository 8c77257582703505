use Rattle.std.proofs.Common.{map, take}
use Rattle.krieg_umpire.proofs.Common.{HasLines, event_line}
use Rattle.krieg_umpire.proofs.writing.put_session.Given as goal

abbrev pub invariant-loop-event : goal.invariant-loop-event
invariant-loop-event l = HasLines l.initial.text l.text (map event_line (take l.event-index l.s.events.items))

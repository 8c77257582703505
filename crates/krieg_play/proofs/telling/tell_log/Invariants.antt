use Rattle.std.proofs.Common.{◌≡◌, take}
use Rattle.krieg_play.proofs.Common.{lines_for}
use Rattle.krieg_play.proofs.Tellings.{hearing}
use Rattle.krieg_play.proofs.telling.tell_log.Given as goal

-- the lines of the tries so far were told
abbrev pub invariant-loop-judged : goal.invariant-loop-judged
invariant-loop-judged g l =
    (goal.Seat-dyn g (l.seat.vtable, l.seat.value)).account l.seat.value
    ≡ hearing ((goal.Seat-dyn g (l.initial.seat.vtable, l.initial.seat.value)).account l.initial.seat.value) (lines_for l.who (take l.judged-index l.log))

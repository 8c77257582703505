use Rattle.std.proofs.Common.{◌≡◌, [], length}
use Rattle.krieg_umpire.proofs.Common.{up_to_last, event_form}
use Rattle.krieg_umpire.proofs.reading.read_events.Given as goal

-- the rest, read after the tries so far, gives the whole
abbrev pub invariant-events : goal.invariant-events
invariant-events l = up_to_last event_form l.events.items l.from.number l.from.left ≡ up_to_last event_form [] l.initial.from.number l.initial.from.left

abbrev pub decreases-events : goal.decreases-events
decreases-events l = length l.from.left

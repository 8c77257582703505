use Rattle.std.proofs.Common.{take}
use Rattle.krieg_umpire.proofs.Common.{AreTries}
use Rattle.krieg_umpire.proofs.session.know_tries.Given as goal

abbrev pub invariant-loop-event : goal.invariant-loop-event
invariant-loop-event l = AreTries (take l.event-index l.events)

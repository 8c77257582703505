use Rattle.std.proofs.Common.{◌≡◌, ◌++◌, drop}
use Rattle.krieg_umpire.specs.Games.{judge}
use Rattle.krieg_umpire.specs.Scores.{done_moves}
use Rattle.krieg_umpire.proofs.scores.moves_of.Given as goal

-- the moves so far, and those that are done from here, are all
abbrev pub invariant-loop-event : goal.invariant-loop-event
invariant-loop-event l = l.moves.items ++ done_moves (judge l.p (drop l.event-index l.events)) ≡ done_moves (judge l.start l.events)

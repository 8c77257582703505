use Rattle.std.proofs.Common.{◌≡◌, ◌++◌, drop}
use Rattle.krieg_record.specs.Records.{AreLegal}
use Rattle.krieg_umpire.specs.Scores.{tries_of}
use Rattle.krieg_umpire.proofs.scores.tries_of.Given as goal

-- the tries so far, and those of the other moves, are all; and each of these is legal where it stands
abbrev pub invariant-loop-mv : goal.invariant-loop-mv
invariant-loop-mv l =
    (l.events.items ++ tries_of l.p (drop l.mv-index l.moves) ≡ tries_of l.start l.moves)
    × AreLegal l.p (drop l.mv-index l.moves)

use Rattle.std.proofs.Common.{◌≡◌, ◌++◌, map, take}
use Rattle.krieg_game.proofs.Common.{Dialect, Said, outcome, Holds}
use Rattle.krieg_game.specs.Steps.{AreFor, AreReached, told_before}
use Rattle.krieg_game.proofs.pool.add_replies.Given as goal

abbrev pub invariant-loop-r : goal.invariant-loop-r
invariant-loop-r l =
    AreFor l.steps l.before l.p
    × AreReached l.steps l.kept
    × ((d : Dialect) (own : Said) → l.before ≡ told_before d own → Holds l.kept (l.initial.kept ++ map (outcome d own l.p) (take l.r-index l.replies)))

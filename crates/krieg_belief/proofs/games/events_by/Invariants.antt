use Rattle.std.proofs.Common.{◌≡◌, ◌++◌, drop, reverse}
use Rattle.krieg_belief.proofs.Common.{events_by}
use Rattle.krieg_belief.proofs.games.events_by.Given as goal

abbrev pub invariant-loop-line : goal.invariant-loop-line
invariant-loop-line l = l.events.items ++ events_by l.who (drop l.line-index l.entries) (reverse l.left.items) ≡ events_by l.who l.entries (reverse l.fn.replies.items)

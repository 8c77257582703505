use Rattle.std.proofs.Common.{◌+◌, ◌≤◌}
use Rattle.krieg_belief.proofs.Kept.{IsTraced}
use Rattle.krieg_belief.proofs.games.trace.Given as goal

abbrev pub invariant-loop : goal.invariant-loop
invariant-loop l = record {
  low : l.at + l.counter ≤ l.number;
  traced : IsTraced l.starts l.links l.number l.at l.replies.items;
}

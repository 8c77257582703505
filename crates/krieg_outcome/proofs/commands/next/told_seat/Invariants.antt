-- The seat was told the lines so far.
use Rattle.std.proofs.Common.{◌≡◌, take}
use Rattle.krieg_outcome.proofs.commands.next.told_seat.Given as goal

abbrev pub invariant-loop-line : goal.invariant-loop-line
invariant-loop-line g l = (l.seat.guide ≡ l.initial.seat.guide) × (l.seat.account.heard ≡ take l.line-index l.heard)

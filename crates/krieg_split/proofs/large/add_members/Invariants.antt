use Rattle.std.proofs.Common.{◌-◌, length}
use Rattle.krieg_split.proofs.Tallying.{AreOfSome}
use Rattle.krieg_split.proofs.large.add_members.Given as goal

abbrev pub invariant-loop-place : goal.invariant-loop-place
invariant-loop-place l = AreOfSome l.members l.step l.place l.tallies

abbrev pub decreases-loop-place : goal.decreases-loop-place
decreases-loop-place l = length l.members - l.place

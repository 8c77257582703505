use Rattle.std.proofs.Common.{◌≤◌, ◌-◌, length, take}
use Rattle.krieg_split.proofs.Common.{AllBefore}
use Rattle.krieg_split.proofs.try_list.place_from.Given as goal

abbrev pub invariant-loop-place : goal.invariant-loop-place
invariant-loop-place l = record {
  within : l.place ≤ length l.found;
  before : AllBefore (take l.place l.found) l.mv;
}

abbrev pub decreases-loop-place : goal.decreases-loop-place
decreases-loop-place l = length l.found - l.place

use Rattle.krieg_game.proofs.Common.{AreBuckets, Holds, outcomes_in}
use Rattle.krieg_game.proofs.kept_outcomes.trim_all.Given as goal

abbrev pub invariant-loop-i : goal.invariant-loop-i
invariant-loop-i l = record {
  are : AreBuckets l.buckets.items;
  same : Holds (outcomes_in l.buckets.items) (outcomes_in l.initial.buckets.items);
}

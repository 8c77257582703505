use Rattle.std.proofs.Common.{◌≡◌, ◌+◌, ◌≤◌, ◌&&◌, ℕ, map, length}
use Rattle.std.specs.Vec.Iter.{into_iter_items, into_iter_len}
use Rattle.krieg_checker.proofs.Common.{class_pair, plan_of, within, heard_of, roots_won, roots_cost, MOST_COUNTED}
use Rattle.krieg_checker.proofs.roots.walk_roots.Given as goal

-- what was found so far, with what is left, is all
abbrev pub invariant-loop-class : goal.invariant-loop-class
invariant-loop-class l = record {
  found : (k : ℕ) → k ≤ MOST_COUNTED → within l.need k && roots_won l.d (plan_of l.plan) (map (heard_of l.own) (map class_pair (into_iter_items l.class-iterator))) k ≡ roots_won l.d (plan_of l.plan) (map (heard_of l.own) (map class_pair (into_iter_items l.initial.class-iterator))) k;
  taken : l.units + roots_cost l.d (plan_of l.plan) (map (heard_of l.own) (map class_pair (into_iter_items l.initial.class-iterator))) ≡ l.initial.units + roots_cost l.d (plan_of l.plan) (map (heard_of l.own) (map class_pair (into_iter_items l.class-iterator)));
  fewer : l.units ≤ l.initial.units;
  counted : into_iter_len l.class-iterator ≡ length (into_iter_items l.class-iterator);
}

use Rattle.std.proofs.Common.{◌≡◌, ◌++◌, map, length}
use Rattle.std.specs.Vec.Iter.{into_iter_items, into_iter_len}
use Rattle.krieg_split.proofs.Common.{class_pair, opened_pair, heard_first}
use Rattle.krieg_split.proofs.opening_sets.opened_of.Given as goal

abbrev pub invariant-loop-class : goal.invariant-loop-class
invariant-loop-class l = record {
  named : map opened_pair l.openings.items ++ map heard_first (map class_pair (into_iter_items l.class-iterator)) ≡ map heard_first (map class_pair (into_iter_items l.initial.class-iterator));
  counted : into_iter_len l.class-iterator ≡ length (into_iter_items l.class-iterator);
}

use Rattle.std.proofs.Common.{◌≡◌, map, find, length}
use Rattle.std.specs.Vec.Iter.{into_iter_items, into_iter_len}
use Rattle.krieg_refute.proofs.Common.{class_pair, AddsSets, is_lost_class}
use Rattle.krieg_refute.proofs.claiming.first_lost.Given as goal

abbrev pub invariant-loop-class : goal.invariant-loop-class
invariant-loop-class l = record {
  sets : AddsSets l.initial.table l.table;
  same : find (is_lost_class l.initial.table l.moves) (map class_pair (into_iter_items l.class-iterator)) ≡ find (is_lost_class l.initial.table l.moves) (map class_pair l.fn.classes.items);
  counted : into_iter_len l.class-iterator ≡ length (into_iter_items l.class-iterator);
}

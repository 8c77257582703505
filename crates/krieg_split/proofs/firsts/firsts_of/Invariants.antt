use Rattle.std.proofs.Common.{◌≡◌, ◌++◌, map, length}
use Rattle.std.specs.Vec.Iter.{into_iter_items, into_iter_len}
use Rattle.krieg_split.proofs.Common.{class_pair, first_pair}
use Rattle.krieg_split.proofs.firsts.firsts_of.Given as goal

abbrev pub invariant-loop-class : goal.invariant-loop-class
invariant-loop-class l = record {
  named : map first_pair l.firsts.items ++ map class_pair (into_iter_items l.class-iterator) ≡ map class_pair (into_iter_items l.initial.class-iterator);
  counted : into_iter_len l.class-iterator ≡ length (into_iter_items l.class-iterator);
}

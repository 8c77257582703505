use Rattle.std.proofs.Common.{◌≡◌, ◌++◌, map, length}
use Rattle.std.specs.Vec.Iter.{into_iter_items, into_iter_len}
use Rattle.krieg_game.proofs.Common.{class_pair, bucket_class}
use Rattle.krieg_game.proofs.kept_outcomes.classes_of.Given as goal

abbrev pub invariant-loop-bucket : goal.invariant-loop-bucket
invariant-loop-bucket l = record {
  made : map class_pair l.classes.items ++ map bucket_class (into_iter_items l.bucket-iterator) ≡ map bucket_class (into_iter_items l.initial.bucket-iterator);
  counted : into_iter_len l.bucket-iterator ≡ length (into_iter_items l.bucket-iterator);
}

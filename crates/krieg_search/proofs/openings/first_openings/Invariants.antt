use Rattle.std.proofs.Common.{◌≡◌, length, map}
use Rattle.std.specs.Vec.Iter.{into_iter_items, into_iter_len}
use Rattle.krieg_search.proofs.Common.{first_set}
use Rattle.krieg_search.proofs.OpenedSets.{IsOpening}
use Rattle.krieg_search.proofs.openings.first_openings.Given as goal

abbrev pub invariant-loop-class : goal.invariant-loop-class
invariant-loop-class l = record {
  opening : IsOpening l.initial.table l.table l.found.items (map first_set (into_iter_items l.class-iterator)) (map first_set l.fn.classes.items);
  counted : into_iter_len l.class-iterator ≡ length (into_iter_items l.class-iterator);
}

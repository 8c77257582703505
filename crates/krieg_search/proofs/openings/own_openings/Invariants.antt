use Rattle.std.proofs.Common.{◌≡◌, length, map}
use Rattle.std.specs.Vec.Iter.{into_iter_items, into_iter_len}
use Rattle.krieg_search.proofs.Common.{opened_set}
use Rattle.krieg_search.proofs.OpenedSets.{IsOpening}
use Rattle.krieg_search.proofs.openings.own_openings.Given as goal

abbrev pub invariant-loop-o : goal.invariant-loop-o
invariant-loop-o l = record {
  opening : IsOpening l.initial.table l.table l.found.items (map opened_set (into_iter_items l.o-iterator)) (map opened_set l.fn.opened.items);
  counted : into_iter_len l.o-iterator ≡ length (into_iter_items l.o-iterator);
}

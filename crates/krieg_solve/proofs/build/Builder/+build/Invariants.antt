use Rattle.std.proofs.Common.{◌≡◌, length, map, List, ◌+◌, ◌*◌}
use Rattle.std.specs.Vec.Iter.{into_iter_items, into_iter_len}
use Rattle.krieg_solve.proofs.Common.{Pos, In, class_pair, edge_of, sets_of}
use Rattle.krieg_solve.proofs.Edging.{IsEdging}
use Rattle.krieg_solve.proofs.build.Builder.+build.Given as goal

abbrev pub decreases-build : goal.decreases-build
decreases-build l = 2 * l.deep

abbrev pub decreases-build_edges : goal.decreases-build_edges
decreases-build_edges l = 2 * l.deep + 1

abbrev pub decreases-build_other : goal.decreases-build_other
decreases-build_other l = 2 * l.deep + 1

abbrev pub invariant-build_edges-loop-class : goal.invariant-build_edges-loop-class
invariant-build_edges-loop-class l = record {
  edging : IsEdging l.d l.moves l.initial.self.table l.self.table (map edge_of l.edges.items) (map class_pair (into_iter_items l.class-iterator)) (map class_pair l.fn.classes.items) l.initial.self.left l.self.left l.deep;
  inside : (C : List Pos) → In C (sets_of (into_iter_items l.class-iterator)) → In C (sets_of l.fn.classes.items);
  counted : into_iter_len l.class-iterator ≡ length (into_iter_items l.class-iterator);
}

use Rattle.std.proofs.Common.{◌≡◌, ◌+◌, ◌*◌, ◌≤◌, ◌&&◌, ℕ, true, map, length}
use Rattle.std.specs.Vec.Iter.{into_iter_items, into_iter_len}
use Rattle.krieg_checker.proofs.Common.{size, size_edges, class_pair, edges_in, is_ordered, tree_of, within, classes_won, classes_cost, MOST_COUNTED}
use Rattle.krieg_checker.proofs.Walking.{IsWalked}
use Rattle.krieg_checker.proofs.walk.+walking.Given as goal

abbrev pub invariant-walk-nodes : goal.invariant-walk-nodes
invariant-walk-nodes l = record {
  walked : IsWalked l.d (tree_of l.n) (tree_of l.here) l.fn.b l.set l.need l.units l.initial.units;
  ordered : is_ordered (tree_of l.here) ≡ true;
  smaller : size (tree_of l.here) ≤ size (tree_of l.n);
}

abbrev pub decreases-walk-nodes : goal.decreases-walk-nodes
decreases-walk-nodes l = size (tree_of l.here)

-- what was found so far, with what is left, is all
abbrev pub invariant-walk_classes-loop-class : goal.invariant-walk_classes-loop-class
invariant-walk_classes-loop-class l = record {
  found : (k : ℕ) → k ≤ MOST_COUNTED → within l.need k && classes_won l.d (edges_in (tree_of l.n)) (map class_pair (into_iter_items l.class-iterator)) k ≡ classes_won l.d (edges_in (tree_of l.n)) (map class_pair (into_iter_items l.initial.class-iterator)) k;
  taken : l.units + classes_cost l.d (edges_in (tree_of l.n)) (map class_pair (into_iter_items l.initial.class-iterator)) ≡ l.initial.units + classes_cost l.d (edges_in (tree_of l.n)) (map class_pair (into_iter_items l.class-iterator));
  fewer : l.units ≤ l.initial.units;
  counted : into_iter_len l.class-iterator ≡ length (into_iter_items l.class-iterator);
}

abbrev pub decreases-walk : goal.decreases-walk
decreases-walk l = 3 * size (tree_of l.n.now)

abbrev pub decreases-walk_classes : goal.decreases-walk_classes
decreases-walk_classes l = 3 * size_edges (edges_in (tree_of l.n.now)) + 2

abbrev pub decreases-walk_class : goal.decreases-walk_class
decreases-walk_class l = 3 * size_edges (edges_in (tree_of l.n.now)) + 1

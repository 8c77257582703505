use Rattle.std.proofs.Common.{◌≡◌, ◌-◌, length, map, find, ◌+◌, ◌*◌, ◌^◌}
use Rattle.std.specs.Prelude.{IfSome}
use Rattle.std.specs.Vec.Iter.{into_iter_items, into_iter_len}
use Rattle.krieg_search.proofs.Common.{class_pair, set_at, move_of, IsAtWork, sets_of, items_of}
use Rattle.krieg_search.proofs.Noted.{IsRowTo}
use Rattle.krieg_search.proofs.Blocked.{is_lost}
use Rattle.krieg_search.proofs.Tries.{IsTrying}
use Rattle.krieg_search.proofs.Numbers.{IsCounting}
use Rattle.krieg_search.proofs.Checking.{IsChecking}
use Rattle.krieg_search.proofs.search.Search.+search.Given as goal

-- first the number of moves counts, then the members; no class has 2 ^ 64
abbrev pub decreases-first_lost : goal.decreases-first_lost
decreases-first_lost l = 8 * (l.moves * 2 ^ 64 + 2 ^ 64 - 1) + 5

abbrev pub decreases-block_of : goal.decreases-block_of
decreases-block_of l = 8 * (l.asked.now.moves * 2 ^ 64 + length (set_at l.self.now.table l.asked.now.set)) + 1

abbrev pub decreases-block_anew : goal.decreases-block_anew
decreases-block_anew l = 8 * (l.asked.now.moves * 2 ^ 64 + length (set_at l.self.now.table l.asked.now.set))

abbrev pub decreases-win_by_a_try : goal.decreases-win_by_a_try
decreases-win_by_a_try l = 8 * (l.moves * 2 ^ 64 + length (set_at l.self.now.table l.set)) + 2

abbrev pub decreases-can_win_in : goal.decreases-can_win_in
decreases-can_win_in l = 8 * (l.moves * 2 ^ 64 + length (set_at l.self.now.table l.set)) + 3

abbrev pub decreases-can_win : goal.decreases-can_win
decreases-can_win l = 8 * (l.moves * 2 ^ 64 + length (set_at l.self.now.table l.set)) + 4

abbrev pub invariant-can_win-loop-fewer : goal.invariant-can_win-loop-fewer
invariant-can_win-loop-fewer l = record {
  counting : IsCounting l.way.d l.way.cut l.initial.self.table l.self.table (set_at l.initial.self.table l.set) l.moves l.fewer l.initial.self.units l.self.units;
  ready : IsAtWork l.way l.self;
  most : l.self.notes.most ≡ l.initial.self.notes.most;
}

abbrev pub invariant-win_by_a_try-loop-tried : goal.invariant-win_by_a_try-loop-tried
invariant-win_by_a_try-loop-tried l = record {
  trying : IsTrying l.way.d l.way.cut l.initial.self.table l.self.table (set_at l.initial.self.table l.set) l.moves (map move_of l.tried-items) l.tried-index l.initial.self.units l.self.units;
  ready : IsAtWork l.way l.self;
  most : l.self.notes.most ≡ l.initial.self.notes.most;
  row : IfSome (items_of l.row) (IsRowTo l.way.d l.way.cut l.self.table (set_at l.initial.self.table l.set) l.moves (map move_of l.tried-items) l.tried-index);
}

abbrev pub invariant-first_lost-loop-class : goal.invariant-first_lost-loop-class
invariant-first_lost-loop-class l = record {
  checking : IsChecking l.way.d l.way.cut l.initial.self.table l.self.table (sets_of l.fn.classes.items) (sets_of (into_iter_items l.class-iterator)) l.moves l.initial.self.units l.self.units;
  counted : into_iter_len l.class-iterator ≡ length (into_iter_items l.class-iterator);
  first : find (is_lost l.way.d l.moves) (map class_pair l.fn.classes.items) ≡ find (is_lost l.way.d l.moves) (map class_pair (into_iter_items l.class-iterator));
  ready : IsAtWork l.way l.self;
  most : l.self.notes.most ≡ l.initial.self.notes.most;
}

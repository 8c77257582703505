use Rattle.std.proofs.Common.{◌≡◌, ◌+◌, ◌-◌, ◌*◌, ◌<◌, ◌≤◌, ℕ, true, false}
use Rattle.krieg_board.specs.Sets.{has}
use Rattle.krieg_nets.specs.Nets.{AllFailBetween, AllFailFrom, AreFled, against}
use Rattle.krieg_nets.specs.Others.{lone_of}
use Rattle.krieg_nets.proofs.nets.Nets.+nets.Given as goal

abbrev pub decreases-net : goal.decreases-net
decreases-net l = 64 * l.moves + 8 * l.captures + 4

abbrev pub decreases-caught_at : goal.decreases-caught_at
decreases-caught_at l = 64 * l.moves + 8 * l.captures + 5

abbrev pub decreases-none_between : goal.decreases-none_between
decreases-none_between l = 64 * l.fewer + 39

abbrev pub decreases-none_from : goal.decreases-none_from
decreases-none_from l = 64 * l.fewer + 40

abbrev pub decreases-none : goal.decreases-none
decreases-none l = 64 * l.moves

abbrev pub decreases-caught : goal.decreases-caught
decreases-caught l = 64 * l.moves + 8 * l.captures + 2

abbrev pub decreases-net_anew : goal.decreases-net_anew
decreases-net_anew l = 64 * l.moves + 8 * l.captures + 3

abbrev pub invariant-caught-loop-rest : goal.invariant-caught-loop-rest
invariant-caught-loop-rest l = record {
  fled : AreFled l.men.bits (lone_of l.men.others) l.moves l.caught;
  part : (k : ℕ) → k < 64 → has l.rest k ≡ true → has l.loose k ≡ true;
  no_more : l.self ≤ l.fn.self;
}

abbrev pub decreases-caught-loop-rest : goal.decreases-caught-loop-rest
decreases-caught-loop-rest l = l.rest

abbrev pub invariant-none-loop-rest : goal.invariant-none-loop-rest
invariant-none-loop-rest l = record {
  gone : (from : ℕ) → from < 64 → has l.rest from ≡ false → AllFailFrom (against l.men) (l.moves - 1) from l.none;
  no_more : l.self ≤ l.fn.self;
}

abbrev pub decreases-none-loop-rest : goal.decreases-none-loop-rest
decreases-none-loop-rest l = l.rest

abbrev pub invariant-none_from-loop-rest : goal.invariant-none_from-loop-rest
invariant-none_from-loop-rest l = record {
  gone : (to : ℕ) → to < 64 → has l.rest to ≡ false → AllFailBetween (against l.men) l.fewer l.from to l.none;
  no_more : l.self ≤ l.fn.self;
}

abbrev pub decreases-none_from-loop-rest : goal.decreases-none_from-loop-rest
decreases-none_from-loop-rest l = l.rest

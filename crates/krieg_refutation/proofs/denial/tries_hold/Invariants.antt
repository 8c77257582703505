use Rattle.std.proofs.Common.{◌≡◌, ◌+◌, ◌≤◌, ◌-◌, ◌&&◌, drop}
use Rattle.std.specs.List.{list_all}
use Rattle.krieg_refutation.proofs.Common.{total, holds_at, price_at}
use Rattle.krieg_refutation.proofs.denial.tries_hold.Given as goal

abbrev pub invariant-loop-mv : goal.invariant-loop-mv
invariant-loop-mv l = record {
  answer : (l.all && list_all (holds_at (l.c.claim.now.moves - 1) l.c) (drop l.mv-index l.moves)) ≡ list_all (holds_at (l.c.claim.now.moves - 1) l.c) l.moves;
  taken : l.units + total (price_at l.c) l.moves ≡ l.initial.units + total (price_at l.c) (drop l.mv-index l.moves);
  fewer : l.units ≤ l.initial.units;
}

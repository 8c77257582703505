use Rattle.std.proofs.Common.{◌≡◌, ◌+◌, ◌≤◌, ◌&&◌, drop}
use Rattle.std.specs.List.{list_all}
use Rattle.krieg_refutation.proofs.Common.{total, holds_at, price_at}
use Rattle.krieg_refutation.proofs.denial.last_tries_hold.Given as goal

abbrev pub invariant-loop-tally : goal.invariant-loop-tally
invariant-loop-tally l = record {
  answer : (l.all && list_all (λ y. holds_at 0 l.c y.mv) (drop l.tally-index l.tallies)) ≡ list_all (λ y. holds_at 0 l.c y.mv) l.tallies;
  taken : l.units + total (λ y. price_at l.c y.mv) l.tallies ≡ l.initial.units + total (λ y. price_at l.c y.mv) (drop l.tally-index l.tallies);
  fewer : l.units ≤ l.initial.units;
}

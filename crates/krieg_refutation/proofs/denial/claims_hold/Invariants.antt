use Rattle.std.proofs.Common.{◌≡◌, ◌+◌, ◌≤◌, ◌&&◌, [], take, drop}
use Rattle.krieg_costs.specs.Refutation as theory
use Rattle.krieg_refutation.proofs.Common.{chess, claims_of, claims_price}
use Rattle.krieg_refutation.proofs.denial.claims_hold.Given as goal

abbrev pub invariant-loop-place : goal.invariant-loop-place
invariant-loop-place l = record {
  answer : (l.all && theory.claims_hold (chess l.d) (claims_of l.d (take l.place l.claims)) (claims_of l.d (drop l.place l.claims))) ≡ theory.claims_hold (chess l.d) [] (claims_of l.d l.claims);
  taken : l.units + claims_price l.d l.claims ≡ l.initial.units + claims_price l.d (drop l.place l.claims);
  fewer : l.units ≤ l.initial.units;
}

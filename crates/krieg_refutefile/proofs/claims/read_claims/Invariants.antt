use Rattle.std.proofs.Common.{◌≡◌, ◌-◌, map}
use Rattle.krieg_refutefile.proofs.Common.{repeated, totals_of, claim_at, claims_at, with_claim, claim_state_of}
use Rattle.krieg_format.proofs.Repeats.{with_front}
use Rattle.krieg_refutefile.proofs.claims.read_claims.Given as goal

-- the rest, read after the claims that are there, gives the whole
abbrev pub invariant-loop-i : goal.invariant-loop-i
invariant-loop-i l = record {
  count : l.totals.claims ≡ l.i;
  read : with_front (map claim_state_of l.claims.items) (repeated (l.n - l.i) (claim_at l.d) with_claim (totals_of l.totals) l.from) ≡ claims_at l.d l.n l.initial.from;
}

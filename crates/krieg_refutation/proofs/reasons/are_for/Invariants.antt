use Rattle.std.proofs.Common.{◌≡◌, map, drop}
use Rattle.std.specs.List.{list_any, list_all}
use Rattle.krieg_refutation.proofs.Common.{same, move_lt, reason_of}
use Rattle.krieg_refutation.proofs.reasons.are_for.Given as goal

abbrev pub invariant-loop-r : goal.invariant-loop-r
invariant-loop-r l = list_all (λ r. list_any (same move_lt r.0) l.tries) (map reason_of (drop l.r-index l.reasons)) ≡ list_all (λ r. list_any (same move_lt r.0) l.tries) (map reason_of l.reasons)

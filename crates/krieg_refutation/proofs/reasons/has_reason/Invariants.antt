use Rattle.std.proofs.Common.{◌≡◌, map, drop}
use Rattle.std.specs.List.{list_any}
use Rattle.krieg_refutation.proofs.Common.{same, move_lt, reason_of}
use Rattle.krieg_refutation.proofs.reasons.has_reason.Given as goal

abbrev pub invariant-loop-r : goal.invariant-loop-r
invariant-loop-r l = list_any (λ r. same move_lt r.0 l.mv) (map reason_of (drop l.r-index l.reasons)) ≡ list_any (λ r. same move_lt r.0 l.mv) (map reason_of l.reasons)

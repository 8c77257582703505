use Rattle.std.proofs.Common.{◌≡◌, List, map, drop}
use Rattle.std.specs.List.{list_all}
use Rattle.krieg_refutation.proofs.Common.{Pos, Dialect, IsTryResult, claims_of, reason_of, holds_if_own}
use Rattle.krieg_refutation.proofs.reasons.all_hold.Given as goal

abbrev pub invariant-loop-r : goal.invariant-loop-r
invariant-loop-r l = (d : Dialect) (B : List Pos) → IsTryResult d l.fewer B l.mv l.tried → list_all (holds_if_own d (claims_of d l.before) l.fewer B l.mv) (map reason_of (drop l.r-index l.reasons)) ≡ list_all (holds_if_own d (claims_of d l.before) l.fewer B l.mv) (map reason_of l.reasons)

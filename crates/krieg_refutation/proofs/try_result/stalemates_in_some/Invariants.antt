use Rattle.std.proofs.Common.{◌≡◌, ◌&&◌, drop}
use Rattle.std.specs.List.{list_any}
use Rattle.krieg_refutation.proofs.Common.{is_legal, stalemates}
use Rattle.krieg_refutation.proofs.try_result.stalemates_in_some.Given as goal

abbrev pub invariant-loop-member : goal.invariant-loop-member
invariant-loop-member l =
    list_any (λ p. is_legal p l.mv && stalemates p l.mv) l.members ≡ list_any (λ p. is_legal p l.mv && stalemates p l.mv) (drop l.member-index l.members)

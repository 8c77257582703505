use Rattle.std.proofs.Common.{◌≡◌, drop}
use Rattle.std.specs.List.{list_all}
use Rattle.krieg_refutation.proofs.Common.{is_same_side}
use Rattle.krieg_refutation.proofs.denial.are_turns_of.Given as goal

abbrev pub invariant-loop-p : goal.invariant-loop-p
invariant-loop-p l = list_all (λ p. is_same_side p.side l.side) (drop l.p-index l.list) ≡ list_all (λ p. is_same_side p.side l.side) l.list

use Rattle.std.proofs.Common.{◌≡◌, drop}
use Rattle.std.specs.List.{list_any}
use Rattle.krieg_refutation.proofs.Common.{same, move_lt}
use Rattle.krieg_refutation.proofs.reasons.is_one_of.Given as goal

abbrev pub invariant-loop-m : goal.invariant-loop-m
invariant-loop-m l = list_any (same move_lt l.mv) (drop l.m-index l.moves) ≡ list_any (same move_lt l.mv) l.moves

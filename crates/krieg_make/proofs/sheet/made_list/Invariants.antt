use Rattle.std.proofs.Common.{◌≡◌}
use Rattle.krieg_make.proofs.Common.{made_positions}
use Rattle.krieg_make.proofs.sheet.made_list.Given as goal

abbrev pub invariant-loop-k : goal.invariant-loop-k
invariant-loop-k l = l.list.items ≡ made_positions l.first l.k

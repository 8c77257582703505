use Rattle.std.proofs.Common.{◌≡◌, ◌++◌}
use Rattle.krieg_table.proofs.Common.{sets}
use Rattle.krieg_table.proofs.table.Table.into_sets.Given as goal

abbrev pub invariant-loop-kept : goal.invariant-loop-kept
invariant-loop-kept l = l.sets.items ++ l.kept-iterator ≡ sets l.fn.self

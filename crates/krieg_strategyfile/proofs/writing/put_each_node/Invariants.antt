use Rattle.std.proofs.Common.{take}
use Rattle.std.specs.List.{flat_map}
use Rattle.krieg_strategyfile.proofs.Common.{HasLines, node_lines}
use Rattle.krieg_strategyfile.proofs.writing.put_each_node.Given as goal

-- the lines of the nodes before this one
abbrev pub invariant-loop-i : goal.invariant-loop-i
invariant-loop-i l = HasLines l.initial.text l.text (flat_map (node_lines l.d) (take l.i l.nodes))

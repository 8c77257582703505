use Rattle.std.proofs.Common.{map, take}
use Rattle.krieg_outcome.proofs.Common.{position_line, HasLines}
use Rattle.krieg_outcome.proofs.commands.believe.put_positions.Given as goal

abbrev pub invariant-loop-member : goal.invariant-loop-member
invariant-loop-member l = HasLines l.initial.text l.text (map position_line (take l.member-index l.members))

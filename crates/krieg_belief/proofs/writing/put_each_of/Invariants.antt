use Rattle.std.proofs.Common.{take, flat_map}
use Rattle.krieg_belief.proofs.Common.{HasLines, game_lines}
use Rattle.krieg_belief.proofs.writing.put_each_of.Given as goal

abbrev pub invariant-loop-i : goal.invariant-loop-i
invariant-loop-i l = HasLines l.initial.text l.text (flat_map game_lines (take l.i l.games))

use Rattle.std.proofs.Common.{map, take}
use Rattle.krieg_outcome.proofs.Common.{HasLines, try_line}
use Rattle.krieg_outcome.proofs.commands.keys.put_tries.Given as goal

-- the lines of the tries before this one
abbrev pub invariant-loop-key : goal.invariant-loop-key
invariant-loop-key l = HasLines l.initial.text l.text (map try_line (take l.key-index l.tries))

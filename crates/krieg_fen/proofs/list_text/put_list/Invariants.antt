use Rattle.std.proofs.Common.{map, take}
use Rattle.krieg_fen.proofs.Common.{position_line, HasLines}
use Rattle.krieg_fen.proofs.list_text.put_list.Given as goal

abbrev pub invariant-loop-p : goal.invariant-loop-p
invariant-loop-p l = HasLines l.initial.text l.text (map position_line (take l.p-index l.list))

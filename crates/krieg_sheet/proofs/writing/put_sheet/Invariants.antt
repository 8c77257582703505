use Rattle.std.proofs.Common.{map, take}
use Rattle.krieg_sheet.proofs.Common.{HasLines, entry_line}
use Rattle.krieg_sheet.proofs.writing.put_sheet.Given as goal

abbrev pub invariant-loop-line : goal.invariant-loop-line
invariant-loop-line l = HasLines l.initial.text l.text (map (entry_line l.d) (take l.line-index l.entries))

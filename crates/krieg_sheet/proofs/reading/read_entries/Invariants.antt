use Rattle.std.proofs.Common.{◌≡◌, length}
use Rattle.krieg_sheet.proofs.Common.{entries_at}
use Rattle.krieg_sheet.proofs.reading.read_entries.Given as goal

-- the rest, read into the sheet as it is, gives the whole
abbrev pub invariant-entries : goal.invariant-entries
invariant-entries l = entries_at l.sheet l.from ≡ entries_at l.initial.sheet l.initial.from

abbrev pub decreases-entries : goal.decreases-entries
decreases-entries l = length l.from.left

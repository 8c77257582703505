use Rattle.krieg_sheet.proofs.ListedPositions.{list_read}
use Rattle.krieg_sheet.proofs.reading.read_lines.Goals as goal

pub listed-sheet-requires-clause-listed : goal.listed-sheet-requires-clause-listed
listed-sheet-requires-clause-listed c = (list_read c.in_ok-side.side c.in_ok-side.list.items _ _ c.in_ok-side.ensures.value).no_fault

pub listed-sheet-requires-clause-valid : goal.listed-sheet-requires-clause-valid
listed-sheet-requires-clause-valid c = (list_read c.in_ok-side.side c.in_ok-side.list.items _ _ c.in_ok-side.ensures.value).valid

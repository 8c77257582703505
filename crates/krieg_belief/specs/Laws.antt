-- What holds of every sheet.
use Rattle.std.specs.Prelude.{◌≡◌, List}
use Rattle.krieg_sheet.specs.Sheets.{SheetState}
use Rattle.krieg_belief.specs.Explained.{ShownState, AreShown}

-- a sheet has one list of least games
abbrev pub ShownAreOnce : Type 0
ShownAreOnce = (s : SheetState) (xs ys : List ShownState) → AreShown s xs → AreShown s ys → xs ≡ ys

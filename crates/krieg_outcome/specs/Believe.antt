-- What `believe` answers to a sheet: a sheet that lists the possible positions.
use Rattle.std.specs.Prelude.{ℕ, ◌≡◌, List, Result, Ok, Err}
use Rattle.krieg_board.specs.Pos.{Pos}
use Rattle.krieg_text.specs.Lines.{lines}
use Rattle.krieg_text.specs.Reading.{whole}
use Rattle.krieg_sheet.specs.Sheets.{SheetState}
use Rattle.krieg_sheet.specs.SheetReading.{sheet_at}
use Rattle.krieg_sheet.specs.SheetText.{answer_text}
use Rattle.krieg_belief.specs.Possible.{IsPossible}
use Rattle.krieg_belief.specs.Limits.{AllWithin, IsFirstExcess}
use Rattle.krieg_outcome.specs.Refusal.{OfText}
use Rattle.krieg_outcome.specs.declared.refusal.Refusal.{Refusal}
use Rattle.krieg_outcome.specs.declared.refusal.Refusal.TheVariants.{TooMany}

-- The answer lists the possible positions of the sheet; they are too many at the line of the first part of the sheet
-- after which there are more than the limit.
abbrev pub Believed : ℕ → SheetState → Result (List ℕ) Refusal → Type 0
Believed limit s (Ok answer) = (ps : List Pos) × IsPossible s ps × AllWithin limit s × (answer ≡ answer_text s.dialect s.side ps)
Believed limit s (Err (TooMany line)) = IsFirstExcess s limit line
Believed limit s (Err _) = ⊥

-- the same of a text that may spell a sheet
abbrev pub Believes : ℕ → List ℕ → Result (List ℕ) Refusal → Type 0
Believes limit text outcome = OfText (whole sheet_at (lines text)) (Believed limit) outcome

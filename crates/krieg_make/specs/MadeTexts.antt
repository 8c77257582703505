-- The made texts.
use Rattle.std.specs.Prelude.{◌≡◌, ℕ, List, Ok}
use Rattle.krieg_text.specs.Reading.{whole}
use Rattle.krieg_sheet.specs.SheetReading.{sheet_at}
use Rattle.krieg_sheet.specs.SheetText.{sheet_text}
use Rattle.krieg_umpire.specs.SessionReading.{session_at}
use Rattle.krieg_umpire.specs.SessionText.{session_text}
use Rattle.krieg_make.specs.declared.text.MakeKind.{MakeKind}
use Rattle.krieg_make.specs.declared.text.MakeKind.TheVariants.{Session, Sheet}
use Rattle.krieg_make.specs.MadeSheets.{made_sheet}
use Rattle.krieg_make.specs.MadeSessions.{made_session}

-- the written form of the made session, or of the made sheet, of that number
abbrev pub made_text : ℕ → MakeKind → List ℕ
made_text s Session = session_text (made_session s)
made_text s Sheet = sheet_text (made_sheet s)

-- lines of that kind that are read as the made session, or as the made sheet
abbrev pub IsReadAgain : ℕ → MakeKind → List (List ℕ) → Type 0
IsReadAgain s Session ls = whole session_at ls ≡ Ok (made_session s)
IsReadAgain s Sheet ls = whole sheet_at ls ≡ Ok (made_sheet s)

-- What `why` answers to a sheet: the least hidden game for each position that it leaves open.
use Rattle.std.specs.Prelude.{ℕ, ◌≡◌, ◌<◌, ◌≤◌, false, List, [], length, Result, Ok, Err}
use Rattle.krieg_text.specs.Lines.{lines}
use Rattle.krieg_text.specs.Reading.{whole}
use Rattle.krieg_sheet.specs.Sheets.{SheetState}
use Rattle.krieg_sheet.specs.SheetReading.{sheet_at}
use Rattle.krieg_theory.specs.Sets.{is_nil}
use Rattle.krieg_belief.specs.Possible.{IsPossible}
use Rattle.krieg_belief.specs.Limits.{AllWithin, IsFirstExcess}
use Rattle.krieg_belief.specs.Explained.{ShownState, AreShown}
use Rattle.krieg_belief.specs.GamesText.{games_text}
use Rattle.krieg_outcome.specs.Refusal.{OfText}
use Rattle.krieg_outcome.specs.declared.refusal.Refusal.{Refusal}
use Rattle.krieg_outcome.specs.declared.refusal.Refusal.TheVariants.{TooMany, NonePossible, AnswerTooLong}
use Rattle.krieg_outcome.specs.declared.limits.TheConstants.{MOST_INPUT}

-- There are games to show: the least one for each possible position, of which there is one at least, and no part of the sheet
-- leaves more than the limit possible.
pub record HasGames (limit : ℕ) (s : SheetState) (games : List ShownState) : Type 0 where
  pub shown : AreShown s games
  pub within : AllWithin limit s
  pub some : is_nil games ≡ false

-- In this order: too many positions are possible, or none, or the text of the games has more bytes than an input may have; or it
-- is the answer.
abbrev pub Shows : ℕ → SheetState → Result (List ℕ) Refusal → Type 0
Shows limit s (Err (TooMany line)) = IsFirstExcess s limit line
Shows limit s (Err NonePossible) = IsPossible s [] × AllWithin limit s
Shows limit s (Err AnswerTooLong) = (games : List ShownState) × HasGames limit s games × (MOST_INPUT < length (games_text s.dialect games))
Shows limit s (Err _) = ⊥
Shows limit s (Ok answer) = (games : List ShownState) × HasGames limit s games × (answer ≡ games_text s.dialect games) × (length answer ≤ MOST_INPUT)

-- the same of a text that may spell a sheet
abbrev pub ShowsWhy : ℕ → List ℕ → Result (List ℕ) Refusal → Type 0
ShowsWhy limit text outcome = OfText (whole sheet_at (lines text)) (Shows limit) outcome

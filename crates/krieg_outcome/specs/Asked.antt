-- What is asked of a sheet: its possible positions, unless they are too many, or there is none, or it is not the player's turn.
use Rattle.std.specs.Prelude.{◌≡◌, ℕ, Bool, true, false, not, ◌||◌, List, [], Result, Ok, Err}
use Rattle.krieg_board.specs.Pos.{Pos}
use Rattle.krieg_board.specs.declared.men.Side.{Side}
use Rattle.krieg_text.specs.Lines.{lines}
use Rattle.krieg_text.specs.Reading.{whole}
use Rattle.krieg_words.specs.declared.dialects.Dialect.{Dialect}
use Rattle.krieg_sheet.specs.Sheets.{SheetState}
use Rattle.krieg_sheet.specs.SheetReading.{sheet_at}
use Rattle.krieg_sheet.specs.Turns.{is_my_turn, is_over}
use Rattle.krieg_belief.specs.Possible.{IsPossible}
use Rattle.krieg_belief.specs.Limits.{AllWithin, IsFirstExcess}
use Rattle.krieg_theory.specs.Sets.{is_nil}
use Rattle.krieg_outcome.specs.Refusal.{OfText}
use Rattle.krieg_outcome.specs.declared.refusal.Refusal.{Refusal}
use Rattle.krieg_outcome.specs.declared.refusal.Refusal.TheVariants.{TooMany, NonePossible, NotThePlayersTurn}

-- The sheet leaves these positions: they are all that is possible, no part of the sheet leaves more than the limit possible, and
-- there is one.
pub record Leaves (limit : ℕ) (s : SheetState) (S : List Pos) : Type 0 where
  pub possible : IsPossible s S
  pub within : AllWithin limit s
  pub some : is_nil S ≡ false

-- the player has no turn: the game is over, or the opponent is to move
abbrev pub has_no_turn : SheetState → Bool
has_no_turn s = is_over s || not (is_my_turn s)

-- In this order: too many positions are possible, or none, or nothing is asked (`rests`); or it is what comes of the positions.
abbrev pub OfPossible : {A : Type 0} → ℕ → SheetState → Bool → (List Pos → Result A Refusal → Type 0) → Result A Refusal → Type 0
OfPossible limit s rests Of (Err (TooMany line)) = IsFirstExcess s limit line
OfPossible limit s rests Of (Err NonePossible) = IsPossible s [] × AllWithin limit s
OfPossible limit s rests Of (Err NotThePlayersTurn) = (S : List Pos) × Leaves limit s S × (rests ≡ true)
OfPossible limit s rests Of outcome = (S : List Pos) × Leaves limit s S × (rests ≡ false) × Of S outcome

-- what a search makes of positions: in a dialect, for a side, within so many own moves and units
abbrev pub Search : Type 1
Search = Dialect → Side → List Pos → ℕ → ℕ → Result (List ℕ) Refusal → Type 0

-- of the positions that a sheet leaves possible, unless nothing is asked of such a sheet
abbrev pub OfSheet : Search → (SheetState → Bool) → ℕ → ℕ → ℕ → SheetState → Result (List ℕ) Refusal → Type 0
OfSheet By rests n budget limit s outcome = OfPossible limit s (rests s) (λ S. By s.dialect s.side S n budget) outcome

-- the same of a text that may spell a sheet
abbrev pub Searches : Search → (SheetState → Bool) → ℕ → ℕ → ℕ → List ℕ → Result (List ℕ) Refusal → Type 0
Searches By rests n budget limit text outcome = OfText (whole sheet_at (lines text)) (OfSheet By rests n budget limit) outcome

-- of the part of the work that finds the positions: it gives them

abbrev pub IsGiven : List Pos → Result (List Pos) Refusal → Type 0
IsGiven S outcome = outcome ≡ Ok S

-- The possible positions of a sheet, and of the sheets that it began with.
use Rattle.std.specs.Prelude.{◌≡◌, true, ℕ, zero, suc, ◌+◌, ◌<◌, ◌≤◌, ◌↔◌, List, None, length, take}
use Rattle.krieg_board.specs.Pos.{Pos}
use Rattle.krieg_board.specs.Hand.{same_hand}
use Rattle.krieg_board.specs.declared.men.Side.{Side}
use Rattle.krieg_sheet.specs.Sheets.{SheetState, new_sheet}
use Rattle.krieg_sheet.specs.SheetText.{head_lines, opens_lines}
use Rattle.krieg_sheet.specs.Games.{IsConsistent}
use Rattle.krieg_theory.specs.Sets.{In}
use Rattle.krieg_pack.specs.Members.{IsAscending}

-- the positions that are consistent with the sheet, each once, in order: there is one such list
pub record IsPossible (s : SheetState) (ps : List Pos) : Type 0 where
  pub ascending : IsAscending ps
  pub exact : (q : Pos) → In q ps ↔ IsConsistent s q

-- any two of the positions have the same hand of that side
abbrev pub HaveOneHand : Side → List Pos → Type 0
HaveOneHand who ps = (p q : Pos) → In p ps → In q ps → same_hand p q who ≡ true

-- at most that many positions are possible
abbrev pub Within : ℕ → SheetState → Type 0
Within limit s = (ps : List Pos) × IsPossible s ps × (length ps ≤ limit)

-- more than that many positions are possible
abbrev pub Exceeds : ℕ → SheetState → Type 0
Exceeds limit s = (ps : List Pos) × IsPossible s ps × (limit < length ps)

-- What the sheet was before, from the shortest on: the list alone, then the list with the opening words where they were heard, then with one entry, with two, and so on.
abbrev pub prefix : SheetState → ℕ → SheetState
prefix s zero = new_sheet s.dialect s.side s.list None
prefix s (suc n) = record { dialect = s.dialect; side = s.side; list = s.list; opens = s.opens; entries = take n s.entries }

-- the line of the sheet's text that says how many positions are listed
abbrev pub list_line : SheetState → ℕ
list_line s = length (head_lines s.dialect s.side (length s.list))

-- the line of the sheet's text with which the prefix is told: for the list alone that line, and otherwise its last one, where each listed position, the opening words and each entry have a line
abbrev pub line_of : SheetState → ℕ → ℕ
line_of s zero = list_line s
line_of s (suc n) = list_line s + length s.list + length (opens_lines s.dialect s.opens) + n

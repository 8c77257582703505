-- The made sheet of a number.
use Rattle.std.specs.Prelude.{ℕ, ◌+◌, ◌*◌, ◌%◌, List, None, map}
use Rattle.std.specs.List.{range_with_len}
use Rattle.krieg_board.specs.Pos.{Pos}
use Rattle.krieg_board.specs.declared.men.Side.TheVariants.{White}
use Rattle.krieg_words.specs.declared.dialects.Dialect.TheVariants.{Wild16}
use Rattle.krieg_sheet.specs.Sheets.{SheetState, new_sheet}
use Rattle.krieg_make.specs.MadePositions.{made_position}
use Rattle.krieg_make.specs.declared.position.TheConstants.{POSITION_COUNT}

-- how many positions the sheet lists: one, two, and so on up to all of them
abbrev pub made_count : ℕ → ℕ
made_count s = 1 + s % POSITION_COUNT

-- which of the made positions stands at place k of the list, from 0
abbrev pub made_number : ℕ → ℕ → ℕ
made_number s k = (s + 7 * k) % POSITION_COUNT

-- the first n of the positions that it lists: every seventh of the made positions, from the one with the sheet's own number on, round and round
unfoldable pub made_positions : ℕ → ℕ → List Pos
made_positions s n = map (λ k. made_position (made_number s k)) (range_with_len 0 n)

-- all that it lists
abbrev pub made_list : ℕ → List Pos
made_list s = made_positions s (made_count s)

-- White's sheet in wild16, which lists these and says no more
abbrev pub made_sheet : ℕ → SheetState
made_sheet s = new_sheet Wild16 White (made_list s) None

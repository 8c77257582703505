-- Sets by number, and what is known of each.
use Rattle.std.specs.Prelude.{ℕ, zero, suc, List, [], ◌∷◌, map, slice_index_or, Option, if◌then◌else◌}
use Rattle.krieg_board.specs.Pos.{Pos}
use Rattle.krieg_pack.specs.Order.{position_lt}
use Rattle.krieg_costs.specs.Sums.{same_list}
use Rattle.krieg_table.specs.declared.set_result.SetResult.{SetResult}
use Rattle.krieg_table.specs.Results.{Results, nothing, known_for, with_known}

-- a set of positions, with what is known of it
abbrev pub Row : Type 0
Row = List Pos × Results

-- the rows in the order of their numbers, from 0 on
abbrev pub SetRows : Type 0
SetRows = List Row

-- the sets of a table, by their numbers
abbrev pub sets : SetRows → List (List Pos)
sets T = map (λ r. r.0) T

-- the row with a number: an empty set of which nothing is known, where there is none
abbrev pub row_at : SetRows → ℕ → Row
row_at T id = slice_index_or T id ([], nothing)

-- the set with a number
abbrev pub set_at : SetRows → ℕ → List Pos
set_at T id = (row_at T id).0

-- what is known of it for a number of own moves
abbrev pub known_at : SetRows → ℕ → ℕ → Option SetResult
known_at T id moves = known_for (row_at T id).1 moves

-- the number of a set: that of the first row with it, or the next one that is free
abbrev pub number_of : List Pos → SetRows → ℕ
number_of B [] = 0
number_of B (r ∷ T) = if same_list position_lt r.0 B then 0 else suc (number_of B T)

-- the rows with one for the set: it comes last, where there is none yet
abbrev pub interned : List Pos → SetRows → SetRows
interned B [] = (B, nothing) ∷ []
interned B (r ∷ T) = if same_list position_lt r.0 B then r ∷ T else r ∷ interned B T

-- the rows with a result put in for the set with a number and a number of own moves
abbrev pub with_result : SetRows → ℕ → ℕ → SetResult → SetRows
with_result [] id moves k = []
with_result (r ∷ T) zero moves k = (r.0, with_known r.1 moves k) ∷ T
with_result (r ∷ T) (suc id) moves k = r ∷ with_result T id moves k

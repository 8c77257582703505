-- The results of a table by sets, as the accounts of a search have them.
use Rattle.std.specs.Prelude.{ℕ, zero, suc, List, [], ◌∷◌, ◌++◌, Option, Some, None}
use Rattle.krieg_board.specs.Pos.{Pos}
use Rattle.krieg_board.specs.declared.men.Move.{Move}
use Rattle.krieg_accounts.specs.Stored.{Entries}
use Rattle.krieg_table.specs.declared.set_result.SetResult.{SetResult}
use Rattle.krieg_table.specs.declared.set_result.SetResult.TheVariants.{Wins, Loses}
use Rattle.krieg_table.specs.declared.set_result.Win.{Win}
use Rattle.krieg_table.specs.Results.{Results}
use Rattle.krieg_table.specs.SetRows.{SetRows}

-- the try by which a set can be won, where it can
abbrev pub try_of : SetResult → Option Move
try_of (Wins t) = Some t
try_of Loses = None

-- a set is lost with each number of moves from 1 to n
abbrev pub lost_entries : List Pos → ℕ → Entries Pos Move
lost_entries B zero = []
lost_entries B (suc n) = ((B, suc n), None) ∷ lost_entries B n

-- it is won, if it is known to be
abbrev pub won_entries : List Pos → Option Win → Entries Pos Move
won_entries B None = []
won_entries B (Some w) = ((B, w.moves), Some w.mv) ∷ []

-- the results of one set
abbrev pub row_entries : List Pos → Results → Entries Pos Move
row_entries B rs = won_entries B rs.won ++ lost_entries B rs.lost

-- those of all sets
unfoldable pub entries : SetRows → Entries Pos Move
entries [] = []
entries (r ∷ T) = row_entries r.0 r.1 ++ entries T

-- A set of which a part is known to be lost.
use Rattle.std.specs.Prelude.{◌≡◌, ℕ, false, List, Some, None}
use Rattle.krieg_board.specs.Pos.{Pos}
use Rattle.krieg_theory.specs.Sets.{In, is_nil}
use Rattle.krieg_pack.specs.Order.{position_lt}
use Rattle.krieg_accounts.specs.Stored.{stored}
use Rattle.krieg_table.specs.SetRows.{SetRows}
use Rattle.krieg_table.specs.Entries.{entries}

-- the set has a part with some member that is stored as lost with the number of moves
abbrev pub HasLostPart : SetRows → List Pos → ℕ → Type 0
HasLostPart T B n = (A : List Pos) × (is_nil A ≡ false) × ((p : Pos) → In p A → In p B) × (stored position_lt (entries T) (A, n) ≡ Some None)

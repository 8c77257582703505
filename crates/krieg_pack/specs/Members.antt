-- Sets of positions.
use Rattle.std.specs.Prelude.{◌↔◌, ℕ, ◌+◌, ◌*◌, nat_lt, if◌then◌else◌, List, length}
use Rattle.krieg_board.specs.Pos.{Pos}
use Rattle.krieg_theory.specs.Sets.{In, Ascending, as_set}
use Rattle.krieg_pack.specs.Order.{position_lt}

-- each position stands before all that are behind it, so none stands twice
abbrev pub IsAscending : List Pos → Type 0
IsAscending ps = Ascending position_lt ps

-- the positions of a list, each once, in order
unfoldable pub set_of : List Pos → List Pos
set_of ps = as_set position_lt ps

-- where there are more than twice a limit and 64, each is kept once
abbrev pub trimmed : List Pos → ℕ → List Pos
trimmed ps limit = if nat_lt (2 * limit + 64) (length ps) then set_of ps else ps

-- the members ascend, and are just the positions that stand in the list
pub record IsSetOf (members ps : List Pos) : Type 0 where
  pub ascending : IsAscending members
  pub exact : (p : Pos) → In p members ↔ In p ps

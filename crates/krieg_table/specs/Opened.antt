-- Sets that were opened.
use Rattle.std.specs.Prelude.{◌≡◌, true, List, Option, Some, None}
use Rattle.krieg_board.specs.Pos.{Pos}
use Rattle.krieg_pack.specs.Kept.{is_listed}
use Rattle.krieg_table.specs.declared.open_set.OpenSet.{OpenSet}

-- the members were made, or the set is kept as a list
abbrev pub IsMade : Option (List Pos) → List Pos → Type 0
IsMade None B = is_listed B ≡ true
IsMade (Some X) B = X ≡ B

-- the set was opened
abbrev pub IsOpened : OpenSet → List Pos → Type 0
IsOpened o B = IsMade o.made B

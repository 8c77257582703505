-- Whose turn it is in the members of a set.
use Rattle.std.specs.Prelude.{◌≡◌, true, false, List}
use Rattle.krieg_board.specs.Men.{is_same_side}
use Rattle.krieg_board.specs.Pos.{Pos}
use Rattle.krieg_board.specs.declared.men.Side.{Side}
use Rattle.krieg_theory.specs.Sets.{In}

-- the side is to move in all of them
abbrev pub IsOwnTurn : Side → List Pos → Type 0
IsOwnTurn who B = (p : Pos) → In p B → is_same_side p.side who ≡ true

-- the other side is
abbrev pub IsOthersTurn : Side → List Pos → Type 0
IsOthersTurn who B = (p : Pos) → In p B → is_same_side p.side who ≡ false

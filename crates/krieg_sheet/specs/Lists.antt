-- The listed positions: how many they are, and that they have one hand.
use Rattle.std.specs.Prelude.{ℕ, ◌+◌, List, [], ◌∷◌, Option, Some, None, length, nat_le, if◌then◌else◌}
use Rattle.krieg_board.specs.Pos.{Pos}
use Rattle.krieg_board.specs.Hand.{same_hand}
use Rattle.krieg_board.specs.declared.men.Side.{Side}
use Rattle.krieg_fen.specs.declared.forms.TheConstants.{MOST_LISTED}
use Rattle.krieg_sheet.specs.declared.sheet.SheetFault.{SheetFault}
use Rattle.krieg_sheet.specs.declared.sheet.SheetFault.TheVariants.{Count, Differs}

-- of these positions, which are numbered from n on, the first whose hand is not that of the position first
abbrev pub other_hand : Side → Pos → ℕ → List Pos → Option ℕ
other_hand who first n [] = None
other_hand who first n (p ∷ ps) = if same_hand first p who then other_hand who first (n + 1) ps else Some n

-- the fault that the position with that number is, where there is one
abbrev pub differs : Option ℕ → Option SheetFault
differs None = None
differs (Some i) = Some (Differs i)

-- at least one position, and no more than a text may list, each with the hand of the first one, which has the number 0
abbrev pub list_fault : Side → List Pos → Option SheetFault
list_fault who [] = Some Count
list_fault who (first ∷ ps) = if nat_le (length (first ∷ ps)) MOST_LISTED then differs (other_hand who first 1 ps) else Some Count

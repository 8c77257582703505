-- What a position and a set of positions feed a hasher: the same for equal ones.
use Rattle.std.specs.Prelude.{[], ◌∷◌, ◌++◌}
use Rattle.std.specs.Hash as fed
use Rattle.std.specs.Hash.{HashWrites}
use Rattle.std.specs.Cmp.Lexicographic.{pointwise}
use Rattle.std.proofs.Common.{ap}
use Rattle.krieg_board.specs.Pos.{Pos}
use Rattle.krieg_pack.specs.Order.{position_eq}
use Rattle.krieg_pack.specs.Packing.{packed}
use Rattle.krieg_pack.specs.SameNumbers.{equal_position}

-- the four sets one by one, and then the three bytes at once
unfoldable pub fed_by : Pos → HashWrites
fed_by p =
    let k = packed p in
    fed.u64 k.ones ++ (fed.u64 k.twos ++ (fed.u64 k.fours ++ (fed.u64 k.eights ++ (k.rights ∷ k.mark ∷ k.side ∷ []) ∷ [])))

-- the same positions feed a hasher alike
pub positions_fed : fed.Alike position_eq fed_by
positions_fed = record { fed = λ p q h. ap fed_by (equal_position p q h) }

-- and so do the same sets
pub sets_fed : fed.Alike (pointwise position_eq) (fed.slice fed_by)
sets_fed = fed.items_Alike positions_fed

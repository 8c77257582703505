-- Sets of positions as keys of a map: two that compare equal are one.
use Rattle.std.proofs.Common.{◌≡◌, true, List, sym, subst}
use Rattle.std.specs.Cmp.Lexicographic.{pointwise}
use Rattle.krieg_table.proofs.Common.{Pos, same_list, position_lt, position_eq}
use Rattle.krieg_board.proofs.SameTests.{same_tests}
use Rattle.krieg_costs.proofs.Pairs.{same_list_eq, same_list_refl}
use Rattle.krieg_pack.specs.Kept.{sets_decide}
use Rattle.krieg_pack.proofs.PositionSets.{position_order}

pub one_set : (X B : List Pos) → same_list position_lt X B ≡ true → X ≡ B
one_set X B e = same_list_eq position_lt position_order X B e

pub set_itself : (B : List Pos) → same_list position_lt B B ≡ true
set_itself B = same_list_refl position_lt position_order B

-- the map's test of a key is that of the definitions
pub test_is : (B X : List Pos) → pointwise position_eq B X ≡ same_list position_lt X B
test_is B X = same_tests _ _
    (λ e. subst (λ (Y : List Pos). same_list position_lt Y B ≡ true) ((sets_decide B X).0 e) (set_itself B))
    (λ e. (sets_decide B X).1 (sym (one_set X B e)))

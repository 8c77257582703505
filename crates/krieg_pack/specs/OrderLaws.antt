-- The order of positions is total, and lists of positions compare member by member.
use Rattle.std.proofs.Common.{refl}
use Rattle.std.specs.Cmp.{IsTotalOrder, IsEquivalence, IsPartialEquivalence, IsPartialOrder, partial_equiv_from_equiv, partial_order_from_agreeing_total}
use Rattle.std.specs.Ordering.{as_partial_cmp}
use Rattle.std.proofs.lemmas.Cmp.{on_total, nat_list_cmp_total, eq_by_cmp_equiv, lists_equiv}
use Rattle.std.specs.Cmp.Lexicographic.{pointwise}
use Rattle.krieg_pack.specs.Codes.{numbers}
use Rattle.krieg_pack.specs.Order.{position_cmp, position_eq}

-- the order of positions is total
pub position_total : IsTotalOrder position_cmp
position_total = on_total numbers nat_list_cmp_total

-- to be the same position is an equivalence
pub position_equiv : IsEquivalence position_eq
position_equiv = eq_by_cmp_equiv position_total

-- and so a partial one
pub position_partial_equiv : IsPartialEquivalence position_eq
position_partial_equiv = partial_equiv_from_equiv position_equiv

-- the order of positions agrees with it
pub position_partial_order : IsPartialOrder position_eq (as_partial_cmp position_cmp)
position_partial_order = partial_order_from_agreeing_total position_cmp position_total (λ x y. refl) (λ x y. refl)

-- to have the same positions in order is an equivalence
pub sets_equiv : IsEquivalence (pointwise position_eq)
sets_equiv = lists_equiv position_equiv

-- and so a partial one
pub sets_partial_equiv : IsPartialEquivalence (pointwise position_eq)
sets_partial_equiv = partial_equiv_from_equiv sets_equiv

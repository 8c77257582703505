-- Sets that are parts of others.
use Rattle.std.proofs.Common.{◌≡◌, Bool, true, false, List, refl, sym, subst, IsTrue}
use Rattle.std.specs.List.{list_any}
use Rattle.std.proofs.lemmas.Bool.{both_ways, false_from_ne_true}
use Rattle.krieg_split.proofs.Common.{Pos, In, position_lt, same, is_within}
use Rattle.krieg_pack.proofs.PositionSets.{position_order}
use Rattle.krieg_theory.proofs.Lists.{all_at, all_from, any_at, any_from}
use Rattle.krieg_theory.proofs.Ascending.{same_eq, same_refl}

-- a test that tells members
pub member_any : (b : Bool) (p : Pos) (B : List Pos) → (IsTrue b → In p B) → (In p B → IsTrue b) → b ≡ list_any (same position_lt p) B
member_any true p B f g = sym (any_from (same position_lt p) B p (f refl) (same_refl position_lt position_order p))
member_any false p B f g = sym (false_from_ne_true _ (λ e. (let a = any_at (same position_lt p) B e in both_ways false refl (g (subst (λ x. In x B) (sym (same_eq position_lt position_order p a.0 a.2)) a.1)))))

-- a set is within itself
pub within_itself : (S : List Pos) → is_within position_lt S S ≡ true
within_itself S = all_from _ S (λ p i. any_from (same position_lt p) S p i (same_refl position_lt position_order p))

-- and each member of one that is within another is one of that
pub within_in : (A B : List Pos) → is_within position_lt A B ≡ true → (p : Pos) → In p A → In p B
within_in A B h p i =
    let m = any_at (same position_lt p) B (all_at (λ q. list_any (same position_lt q) B) A h p i) in
    subst (λ x. In x B) (sym (same_eq position_lt position_order p m.0 m.2)) m.1

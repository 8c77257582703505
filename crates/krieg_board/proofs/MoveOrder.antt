-- The order of moves is total, tells any two apart, and is the derived one.
use Rattle.std.proofs.Common.{◌≡◌, ℕ, ◌<◌, [], ◌∷◌, refl, ap, ◌∙◌, arith}
use Rattle.std.specs.Cmp.{IsTotalOrder}
use Rattle.std.specs.Cmp.Lexicographic.{slice_cmp}
use Rattle.std.specs.Ordering.{nat_cmp, ordering_then, eq_by_cmp, is_eq}
use Rattle.std.specs.declared.cmp.Ordering.{Ordering}
use Rattle.std.specs.declared.cmp.Ordering.TheVariants.{Less, Equal, Greater}
use Rattle.std.proofs.lemmas.Bool.Decides.{nat_tests}
use Rattle.std.proofs.lemmas.Cmp.{on_total, nat_list_cmp_total}
use Rattle.std.proofs.lemmas.Map.Lookups.{exact_bytes}
use Rattle.krieg_board.proofs.Common.{Promo, Plain, Move, promo_place, move_numbers, move_cmp}
use Rattle.krieg_board.specs.declared.men.Promo.TheVariants.{Queen, Rook, Bishop, Knight}
use Rattle.krieg_board.specs.contracts.men.PromoOrd.TheImpl.{cmp-value as promo_cmp}
use Rattle.krieg_board.specs.contracts.men.MoveOrd.TheImpl.{cmp-value as derived_cmp}
use Rattle.krieg_board.specs.contracts.men.MoveOrd.TheImpl.Laws as laws
use Rattle.krieg_board.specs.contracts.men.MovePartialEq.TheImpl as derived_eq

promo_cmp_is : (a b : Promo) → promo_cmp.it a b ≡ nat_cmp (promo_place a) (promo_place b)
promo_cmp_is Plain Plain = refl
promo_cmp_is Plain Queen = refl
promo_cmp_is Plain Rook = refl
promo_cmp_is Plain Bishop = refl
promo_cmp_is Plain Knight = refl
promo_cmp_is Queen Plain = refl
promo_cmp_is Queen Queen = refl
promo_cmp_is Queen Rook = refl
promo_cmp_is Queen Bishop = refl
promo_cmp_is Queen Knight = refl
promo_cmp_is Rook Plain = refl
promo_cmp_is Rook Queen = refl
promo_cmp_is Rook Rook = refl
promo_cmp_is Rook Bishop = refl
promo_cmp_is Rook Knight = refl
promo_cmp_is Bishop Plain = refl
promo_cmp_is Bishop Queen = refl
promo_cmp_is Bishop Rook = refl
promo_cmp_is Bishop Bishop = refl
promo_cmp_is Bishop Knight = refl
promo_cmp_is Knight Plain = refl
promo_cmp_is Knight Queen = refl
promo_cmp_is Knight Rook = refl
promo_cmp_is Knight Bishop = refl
promo_cmp_is Knight Knight = refl

then_equal : (a : Ordering) → a ≡ ordering_then a Equal
then_equal Less = refl
then_equal Equal = refl
then_equal Greater = refl

pub move_cmp_derived : (a b : Move) → derived_cmp.it a b ≡ move_cmp a b
move_cmp_derived a b =
    ap (λ o. ordering_then (nat_cmp a.from b.from) (ordering_then (nat_cmp a.to b.to) o))
    (promo_cmp_is a.promo b.promo ∙ then_equal (nat_cmp (promo_place a.promo) (promo_place b.promo)))

-- the derived test of equality is that of the order
pub move_eq_derived : (a b : Move) → (derived_eq.ghosts).eq a b ≡ eq_by_cmp move_cmp a b
move_eq_derived a b = laws.matches_eq-law a b ∙ ap is_eq (move_cmp_derived a b)

pub move_total : IsTotalOrder move_cmp
move_total = on_total move_numbers nat_list_cmp_total

promo_same : (p q : Promo) → promo_place p ≡ promo_place q → p ≡ q
promo_same Plain Plain h = refl
promo_same Queen Queen h = refl
promo_same Rook Rook h = refl
promo_same Bishop Bishop h = refl
promo_same Knight Knight h = refl
promo_same _ _ h = absurd (omega arith)

three_same : (a b c x y z : ℕ) → a ∷ b ∷ c ∷ [] ≡ x ∷ y ∷ z ∷ [] → (a ≡ x) × (b ≡ y) × (c ≡ z)
three_same a b c x y z h = (cc, cc, cc)

pub move_equal : (a b : Move) → move_cmp a b ≡ Equal → a ≡ b
move_equal a b h =
    let s = three_same _ _ _ _ _ _ (exact_bytes (move_numbers a) (move_numbers b) h) in
    let r = promo_same a.promo b.promo s.2 in
    λ i. record { from = s.0 i; to = s.1 i; promo = r i }

cmp_less : (x y : ℕ) → x < y → nat_cmp x y ≡ Less
cmp_less x y h = grind (arith, nat_tests)

cmp_same : (x y : ℕ) → x ≡ y → nat_cmp x y ≡ Equal
cmp_same x y h = grind (arith, nat_tests)

-- of two moves the one with the lesser from-square stands before the other
pub by_from : (a b : Move) → a.from < b.from → move_cmp a b ≡ Less
by_from a b h = ap (λ o. ordering_then o (slice_cmp nat_cmp (a.to ∷ promo_place a.promo ∷ []) (b.to ∷ promo_place b.promo ∷ []))) (cmp_less a.from b.from h)

-- of two moves from one square the one with the lesser to-square
pub by_to : (a b : Move) → a.from ≡ b.from → a.to < b.to → move_cmp a b ≡ Less
by_to a b e h =
    ap (λ o. ordering_then o (slice_cmp nat_cmp (a.to ∷ promo_place a.promo ∷ []) (b.to ∷ promo_place b.promo ∷ []))) (cmp_same a.from b.from e)
    ∙ ap (λ o. ordering_then o (slice_cmp nat_cmp (promo_place a.promo ∷ []) (promo_place b.promo ∷ []))) (cmp_less a.to b.to h)

-- and of two moves between the same squares the one with the earlier promotion
pub by_promo : (f t : ℕ) (p q : Promo) → promo_place p < promo_place q → move_cmp (record { from = f; to = t; promo = p }) (record { from = f; to = t; promo = q }) ≡ Less
by_promo f t p q h =
    ap (λ o. ordering_then o (slice_cmp nat_cmp (t ∷ promo_place p ∷ []) (t ∷ promo_place q ∷ []))) (cmp_same f f refl)
    ∙ ap (λ o. ordering_then o (slice_cmp nat_cmp (promo_place p ∷ []) (promo_place q ∷ []))) (cmp_same t t refl)
    ∙ ap (λ o. ordering_then o Equal) (cmp_less (promo_place p) (promo_place q) h)

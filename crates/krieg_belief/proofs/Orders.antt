-- The order of hidden games: adding the same moves to two games of one length changes nothing.
use Rattle.std.proofs.Common.{◌≡◌, true, List, [], ◌∷◌, ◌++◌, length, ◌⊎◌, inl, inr, refl, sym, ap, ◌∙◌, arith}
use Rattle.std.specs.Cmp.Lexicographic.{slice_cmp}
use Rattle.std.specs.Ordering.{ordering_then, is_lt}
use Rattle.std.specs.declared.cmp.Ordering.{Ordering}
use Rattle.std.specs.declared.cmp.Ordering.TheVariants.{Less, Equal, Greater}
use Rattle.krieg_belief.proofs.Common.{move_cmp, Move, position_cmp, Tale, tale_cmp, tale_lt}
use Rattle.krieg_belief.proofs.Facts.{tale_total, move_itself}

pub then_assoc : (a b c : Ordering) → ordering_then a (ordering_then b c) ≡ ordering_then (ordering_then a b) c
then_assoc Less b c = refl
then_assoc Equal b c = refl
then_assoc Greater b c = refl

pub then_equal : (a : Ordering) → ordering_then a Equal ≡ a
then_equal Less = refl
then_equal Equal = refl
then_equal Greater = refl

module _ {X : Type 0} (R : X → X → Ordering) where
  pub appended : (xs ys ms ns : List X) → length xs ≡ length ys → slice_cmp R (xs ++ ms) (ys ++ ns) ≡ ordering_then (slice_cmp R xs ys) (slice_cmp R ms ns)
  appended [] [] ms ns e = refl
  appended [] (y ∷ ys) ms ns e = absurd (omega arith)
  appended (x ∷ xs) [] ms ns e = absurd (omega arith)
  appended (x ∷ xs) (y ∷ ys) ms ns e =
      ap (ordering_then (R x y)) (appended xs ys ms ns (omega arith)) ∙ then_assoc (R x y) (slice_cmp R xs ys) (slice_cmp R ms ns)

  pub itself : ((x : X) → R x x ≡ Equal) → (xs : List X) → slice_cmp R xs xs ≡ Equal
  itself same [] = refl
  itself same (x ∷ xs) = ap (λ (o : Ordering). ordering_then o (slice_cmp R xs xs)) (same x) ∙ itself same xs

-- the game with more moves of the opponent
abbrev pub and_moves : Tale → List Move → Tale
and_moves x ms = record { stands = x.stands; start = x.start; replies = x.replies ++ ms }

-- not after the other
abbrev pub Le : Tale → Tale → Type 0
Le x y = (tale_cmp x y ≡ Less) ⊎ (tale_cmp x y ≡ Equal)

pub le_trans : (x y z : Tale) → Le x y → Le y z → Le x z
le_trans x y z (inl e) (inl f) = inl (tale_total.trans x y z e f)
le_trans x y z (inl e) (inr f) =
    let g : tale_cmp z x ≡ tale_cmp y x = sym (tale_total.congr y z x f) in
    inl (tale_total.antisymm x z ∙ (ap Rattle.std.specs.Ordering.ordering_reverse g ∙ (sym (tale_total.antisymm x y) ∙ e)))
le_trans x y z (inr e) (inl f) = inl (tale_total.congr x y z e ∙ f)
le_trans x y z (inr e) (inr f) = inr (tale_total.congr x y z e ∙ f)

pub more : (x y : Tale) (ms : List Move) → length x.replies ≡ length y.replies → tale_cmp (and_moves x ms) (and_moves y ms) ≡ tale_cmp x y
more x y ms e =
    ap (ordering_then (position_cmp x.start y.start))
    (appended move_cmp x.replies y.replies ms ms e ∙ (ap (ordering_then (slice_cmp move_cmp x.replies y.replies)) (itself move_cmp move_itself ms) ∙ then_equal (slice_cmp move_cmp x.replies y.replies)))

pub le_more : (x y : Tale) (ms : List Move) → length x.replies ≡ length y.replies → Le x y → Le (and_moves x ms) (and_moves y ms)
le_more x y ms e (inl h) = inl (more x y ms e ∙ h)
le_more x y ms e (inr h) = inr (more x y ms e ∙ h)

pub less : (o : Ordering) → is_lt o ≡ true → o ≡ Less
less Less h = refl
less Equal h = absurd cc
less Greater h = absurd cc

pub lt_le : (x y : Tale) → tale_lt x y ≡ true → Le x y
lt_le x y h = inl (less (tale_cmp x y) h)

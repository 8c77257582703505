-- All moves ascend strictly, and so do the legal moves of a position.
use Rattle.std.proofs.Common.{◌≡◌, ℕ, zero, suc, ◌<◌, List, [], ◌∷◌, ◌++◌, refl, sym, ◌∙◌, arith}
use Rattle.std.specs.List.{AllByRecursion}
use Rattle.std.specs.List.Sorted.{IsStrictlySortedBy}
use Rattle.std.specs.declared.cmp.Ordering.TheVariants.{Less}
use Rattle.std.proofs.lemmas.List.Kept.{IsStrictlySortedBy-filter}
use Rattle.krieg_moves.proofs.Common.{move_cmp, Pos, gathered, Move, Plain, is_legal, moves_between, moves_from, all_moves, moves}
use Rattle.krieg_board.specs.declared.men.Promo.TheVariants.{Queen, Rook, Bishop, Knight}
use Rattle.krieg_board.proofs.MoveOrder.{by_from, by_to, by_promo}

all_append : (P : Move → Type 0) (xs ys : List Move) → AllByRecursion P xs → AllByRecursion P ys → AllByRecursion P (xs ++ ys)
all_append P [] ys a b = b
all_append P (x ∷ xs) ys a b = (a.0, all_append P xs ys a.1 b)

all_so : (P Q : Move → Type 0) (xs : List Move) → ((x : Move) → P x → Q x) → AllByRecursion P xs → AllByRecursion Q xs
all_so P Q [] f a = tt
all_so P Q (x ∷ xs) f a = (f x a.0, all_so P Q xs f a.1)

all_gathered : (P : Move → Type 0) (f : ℕ → List Move) (n : ℕ) → ((k : ℕ) → AllByRecursion P (f k)) → AllByRecursion P (gathered f n)
all_gathered P f zero a = tt
all_gathered P f (suc n) a = all_append P (gathered f n) (f n) (all_gathered P f n a) (a n)

abbrev Ascend : List Move → Type 0
Ascend ms = IsStrictlySortedBy move_cmp ms

append_up : (xs ys : List Move) → Ascend xs → Ascend ys → AllByRecursion (λ x. AllByRecursion (λ y. move_cmp x y ≡ Less) ys) xs → Ascend (xs ++ ys)
unfolding IsStrictlySortedBy
append_up [] ys a b c = b
append_up (x ∷ xs) ys a b c = (all_append (λ y. move_cmp x y ≡ Less) xs ys a.0 c.0, append_up xs ys a.1 b c.1)

-- lists one after another, of which each has its own number
module _ (f : ℕ → List Move) (Has : ℕ → Move → Type 0) (up : (k : ℕ) → Ascend (f k)) (has : (k : ℕ) → AllByRecursion (Has k) (f k)) (apart : (j k : ℕ) (a b : Move) → j < k → Has j a → Has k b → move_cmp a b ≡ Less) where
  Below : ℕ → Move → Type 0
  Below n a = (j : ℕ) × (j < n) × Has j a

  below : (n : ℕ) → AllByRecursion (Below n) (gathered f n)
  unfolding Below
  below zero = tt
  below (suc n) =
      all_append (Below (suc n)) (gathered f n) (f n) (all_so (Below n) (Below (suc n)) (gathered f n) (λ x s. (s.0, omega (arith, s.1), s.2)) (below n))
      (all_so (Has n) (Below (suc n)) (f n) (λ x h. (n, omega arith, h)) (has n))

  gathered_up : (n : ℕ) → Ascend (gathered f n)
  unfolding IsStrictlySortedBy Below
  gathered_up zero = tt
  gathered_up (suc n) =
      append_up (gathered f n) (f n) (gathered_up n) (up n)
      (all_so (Below n) (λ x. AllByRecursion (λ y. move_cmp x y ≡ Less) (f n)) (gathered f n) (λ x s. all_so (Has n) (λ y. move_cmp x y ≡ Less) (f n) (λ y h. apart s.0 n x y s.1 s.2 h) (has n)) (below n))

between_up : (f t : ℕ) → Ascend (moves_between f t)
unfolding IsStrictlySortedBy
between_up f t =
    let before = by_promo f t in (
      (before Plain Queen (omega arith), (before Plain Rook (omega arith), (before Plain Bishop (omega arith), (before Plain Knight (omega arith), tt)))),
      (
        (before Queen Rook (omega arith), (before Queen Bishop (omega arith), (before Queen Knight (omega arith), tt))),
        ((before Rook Bishop (omega arith), (before Rook Knight (omega arith), tt)), ((before Bishop Knight (omega arith), tt), (tt, tt))),
      ),
    )

from_up : (f : ℕ) → Ascend (moves_from f)
unfolding moves_from
from_up f =
    gathered_up (moves_between f) (λ t m. (m.from ≡ f) × (m.to ≡ t)) (between_up f) (λ t. ((refl, refl), ((refl, refl), ((refl, refl), ((refl, refl), ((refl, refl), tt))))))
    (λ j k a b l x y. by_to a b (x.0 ∙ sym y.0) (omega (arith, x.1, y.1))) 64

from_at : (f : ℕ) → AllByRecursion (λ m. m.from ≡ f) (moves_from f)
unfolding moves_from
from_at f = all_gathered (λ m. m.from ≡ f) (moves_between f) 64 (λ t. (refl, (refl, (refl, (refl, (refl, tt))))))

pub all_moves_ascend : IsStrictlySortedBy move_cmp all_moves
unfolding all_moves
all_moves_ascend = gathered_up moves_from (λ f m. m.from ≡ f) from_up from_at (λ j k a b l x y. by_from a b (omega (arith, x, y))) 64

pub moves_ascend : (p : Pos) → IsStrictlySortedBy move_cmp (moves p)
unfolding moves
moves_ascend p = IsStrictlySortedBy-filter move_cmp (is_legal p) all_moves all_moves_ascend

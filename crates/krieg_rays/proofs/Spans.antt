-- What lies between two squares: the squares of their line with the numbers between, by evaluation.
use Rattle.std.proofs.Common.{◌≡◌, ℕ, ◌-◌, ◌*◌, ◌%◌, ◌^◌, ◌<◌, Bool, true, false, ◌&&◌, ◌||◌, refl, sym, ◌∙◌, bit_and, bit_or, nat_lt}
use Rattle.std.specs.Int.RustNames.{bit_xor}
use Rattle.std.proofs.Math.Bool.{and_comm}
use Rattle.krieg_rays.proofs.Common.{is_same_bool, squares, every_square, is_between, has, is_on_file, is_on_rank, is_on_rising, is_on_falling}
use Rattle.krieg_board.proofs.SquareTests.{every_square_at}
use Rattle.krieg_board.proofs.SetLemmas.{differ, has_and, has_or, has_xor}
use Rattle.krieg_board.proofs.SameTests.{same_bool_eq}
use Rattle.krieg_rays.proofs.Ends.{has_before}

-- j is on a line of both squares, and numbered between them
abbrev is_spanned : ℕ → ℕ → ℕ → Bool
is_spanned a c j =
    differ (nat_lt j a) (nat_lt j c)
    && (((is_on_file a j && is_on_file c j) || (is_on_rank a j && is_on_rank c j)) || ((is_on_rising a j && is_on_rising c j) || (is_on_falling a j && is_on_falling c j)))

spans : every_square (λ a. every_square (λ c. every_square (λ j. is_same_bool (is_spanned a c j) (is_between a c j)))) ≡ true
unfolding every_square squares is_between is_on_file is_on_rank is_on_rising is_on_falling
spans = refl

spanned_between : (a c j : ℕ) → a < 64 → c < 64 → j < 64 → is_spanned a c j ≡ is_between a c j
spanned_between a c j ha hc hj =
    same_bool_eq (is_spanned a c j) (is_between a c j)
    (every_square_at (λ j. is_same_bool (is_spanned a c j) (is_between a c j))
    (every_square_at (λ c. every_square (λ j. is_same_bool (is_spanned a c j) (is_between a c j)))
    (every_square_at (λ a. every_square (λ c. every_square (λ j. is_same_bool (is_spanned a c j) (is_between a c j)))) spans a ha) c hc) j hj)

-- what lies between two squares is the same from both ends
pub is_between_turned : (a c j : ℕ) → a < 64 → c < 64 → j < 64 → is_between a c j ≡ is_between c a j
is_between_turned a c j ha hc hj =
    sym (spanned_between a c j ha hc hj)
    ∙ (λ i. differ_turned (nat_lt j a) (nat_lt j c) i
    && ((and_comm (is_on_file a j) (is_on_file c j) i || and_comm (is_on_rank a j) (is_on_rank c j) i)
    || (and_comm (is_on_rising a j) (is_on_rising c j) i || and_comm (is_on_falling a j) (is_on_falling c j) i)))
    ∙ spanned_between c a j hc ha hj
  where
    differ_turned : (x y : Bool) → differ x y ≡ differ y x
    differ_turned true true = refl
    differ_turned true false = refl
    differ_turned false true = refl
    differ_turned false false = refl

-- the lines through the two squares, cut down to the numbers between
pub between_has : (a c k : ℕ) → a < 64 → c < 64 → k < 64 → (f g r q u v w x : ℕ) →
    has f k ≡ is_on_file a k → has g k ≡ is_on_file c k → has r k ≡ is_on_rank a k → has q k ≡ is_on_rank c k →
    has u k ≡ is_on_rising a k → has v k ≡ is_on_rising c k → has w k ≡ is_on_falling a k → has x k ≡ is_on_falling c k →
    has (bit_and (bit_xor (1 * 2 ^ a % 18446744073709551616 - 1) (1 * 2 ^ c % 18446744073709551616 - 1))
    (bit_or (bit_or (bit_and f g) (bit_and r q)) (bit_or (bit_and u v) (bit_and w x)))) k
    ≡ is_between a c k
between_has a c k ha hc hk f g r q u v w x ef eg er eq eu ev ew ex =
    simp (has_and, has_or, has_xor)
    ((λ i. differ (has_before a k ha i) (has_before c k hc i) && (((ef i && eg i) || (er i && eq i)) || ((eu i && ev i) || (ew i && ex i))))
    ∙ spanned_between a c k ha hc hk)

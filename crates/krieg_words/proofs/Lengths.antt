-- The two diagonals through a square never have the same length, by evaluation.
use Rattle.std.proofs.Common.{◌≡◌, ℕ, ◌<◌, true, not, refl, nat_lt}
use Rattle.krieg_words.proofs.Common.{is_same_bool, squares, every_square, rising_length, falling_length, is_rising_longer}
use Rattle.krieg_board.proofs.SquareTests.{every_square_at}
use Rattle.krieg_board.proofs.SameTests.{same_bool_eq}

unequal : every_square (λ k. is_same_bool (not (is_rising_longer k)) (nat_lt (rising_length k) (falling_length k))) ≡ true
unfolding every_square squares
unequal = refl

pub not_longer : (k : ℕ) → k < 64 → not (is_rising_longer k) ≡ nat_lt (rising_length k) (falling_length k)
not_longer k h =
    same_bool_eq (not (is_rising_longer k)) (nat_lt (rising_length k) (falling_length k))
    (every_square_at (λ k. is_same_bool (not (is_rising_longer k)) (nat_lt (rising_length k) (falling_length k))) unequal k h)

pub ruleset lengths = (not_longer)

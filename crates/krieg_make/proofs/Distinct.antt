-- The made positions are distinct: the number of each is read from its board.
use Rattle.std.proofs.Common.{◌≡◌, ℕ, ◌+◌, ◌-◌, ◌*◌, ◌/◌, ◌%◌, ◌<◌, Bool, true, ◌==◌, drop, refl, sym, ◌∙◌, ap, arith}
use Rattle.std.proofs.lemmas.Bool.{eqb-true}
use Rattle.std.specs.List.{list_all, range_with_len, position_or_len}
use Rattle.krieg_make.proofs.Common.{is_man, empty_board, Pos, Black, Pawn, King, made_position, made_board, pair_at, pairs, AreDistinct, AreListedOnce, POSITION_COUNT}
use Rattle.krieg_make.proofs.Numbers.{all_within}

-- the black king's file on the last rank
file_in : Pos → ℕ
file_in p = position_or_len (is_man Black King) (drop 56 p.board)

-- the first square from s on with a black pawn
pawn_from : ℕ → Pos → ℕ
pawn_from s p = s + position_or_len (is_man Black Pawn) (drop s p.board)

-- the number of a square as a place for pawns, which begin on the third rank
place_of : ℕ → ℕ
place_of s = s % 8 + 6 * (s / 8 - 2)

-- 23 pairs have the first place as the lower one, 22 the second, and so on
pair_of : ℕ → ℕ → ℕ
pair_of u v = u * (47 - u) / 2 + (v - u - 1)

-- the number of the pair of places on which black pawns stand
pair_in : Pos → ℕ
pair_in p = pair_of (place_of (pawn_from 0 p)) (place_of (pawn_from (pawn_from 0 p + 1) p))

number_in : Pos → ℕ
number_in p = 5 * pair_in p + file_in p

is_read : ℕ → Bool
is_read i = number_in (made_position i) == i

all_are_read : list_all is_read (range_with_len 0 POSITION_COUNT) ≡ true
unfolding is_read number_in pair_in pair_of place_of pawn_from file_in made_position made_board pair_at pairs empty_board
all_are_read = refl

read_again : (i : ℕ) → i < POSITION_COUNT → number_in (made_position i) ≡ i
unfolding is_read
read_again i h =
    let tested : is_read i ≡ true = all_within is_read 0 POSITION_COUNT i (omega arith) h all_are_read in
    eqb-true (number_in (made_position i)) i tested

pub distinct : AreDistinct
distinct i j hi hj same = sym (read_again i hi) ∙ (ap number_in same ∙ read_again j hj)

-- 7 and 1380 have no divisor in common
pub listed_once : AreListedOnce
listed_once s j k hj hk same = omega arith

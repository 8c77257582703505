-- The squares from which pawns go in a direction, all at once, and how many there are.
use Rattle.std.proofs.Common.{◌≡◌, ℕ, zero, suc, ◌+◌, ◌-◌, ◌*◌, ◌/◌, ◌%◌, ◌^◌, ◌<◌, ◌≤◌, Bool, true, false, not, ◌&&◌, ◌||◌, ◌==◌, cond, ◌⊎◌, inl, inr, bit_and, count_ones, refl, sym, ◌∙◌, ap, arith, subst, nat_lt, mod-eq_of_lt}
use Rattle.std.proofs.Math.Nat.{mod-one}
use Rattle.std.proofs.Math.Bool.{and-true, and-false}
use Rattle.std.proofs.lemmas.Bool.{cases_lt, lt-ltb, le-ltb, eqb-true}
use Rattle.std.proofs.lemmas.Nat.Bits.{bit_at_above}
use Rattle.krieg_moves.proofs.Common.{Side, White, Black, is_same_bool, squares, every_square, file_of, rank_of, pawn_rank, has, ahead, two_ahead, ahead_west, ahead_east, one_if, total, ways_from, ways}
use Rattle.krieg_board.proofs.SetLemmas.{has_and, has_no_bit}
use Rattle.krieg_board.proofs.Ones.{ones_zero, ones_suc, bit_by}
use Rattle.krieg_board.proofs.SameTests.{same_bool_eq}
use Rattle.krieg_board.proofs.SquareTests.{every_square_at}
use Rattle.krieg_moves.proofs.Shifts.{has_down, has_up, has_up_low}

-- two tests that agree on each square, as evaluation tells
pub same_at : (p q : ℕ → Bool) → every_square (λ k. is_same_bool (p k) (q k)) ≡ true → (k : ℕ) → k < 64 → p k ≡ q k
same_at p q e k h = same_bool_eq (p k) (q k) (every_square_at (λ k. is_same_bool (p k) (q k)) e k h)

-- no square is numbered 64
nowhere : (n : ℕ) → n < 2 ^ 64 → has n 64 ≡ false
nowhere n small = has_no_bit n 64 (bit_at_above n 64 64 small (omega arith))

-- a set without the squares from which no square lies there
masked : (off : Bool) (n x : ℕ) → n < 2 ^ 64 → (has n x && not off) ≡ has n (cond off 64 x)
masked true n x small = and-false (has n x) ∙ sym (nowhere n small)
masked false n x small = and-true (has n x)

up : (n d k : ℕ) → n < 2 ^ 64 → k < 64 → has (n * 2 ^ d % 2 ^ 64) k ≡ has n (cond (nat_lt k d) 64 (k - d))
up n d k small h = by_place (cases_lt k d)
  where
    by_place : (k < d) ⊎ (d ≤ k) → has (n * 2 ^ d % 2 ^ 64) k ≡ has n (cond (nat_lt k d) 64 (k - d))
    by_place (inl l) = has_up_low n d k h l ∙ sym (ap (λ t. has n (cond t 64 (k - d))) (lt-ltb k d l) ∙ nowhere n small)
    by_place (inr l) = has_up n d k h l ∙ sym (ap (λ t. has n (cond t 64 (k - d))) (le-ltb k d l))

masked_up : (off : Bool) (n d k : ℕ) → n < 2 ^ 64 → k < 64 → (has (n * 2 ^ d % 2 ^ 64) k && not off) ≡ has n (cond (off || nat_lt k d) 64 (k - d))
masked_up true n d k small h = and-false (has (n * 2 ^ d % 2 ^ 64) k) ∙ sym (nowhere n small)
masked_up false n d k small h = and-true (has (n * 2 ^ d % 2 ^ 64) k) ∙ up n d k small h

off_west : every_square (λ k. is_same_bool (has 18374403900871474942 k) (not (file_of k == 0))) ≡ true
unfolding every_square squares has
off_west = refl

off_east : every_square (λ k. is_same_bool (has 9187201950435737471 k) (not (file_of k == 7))) ≡ true
unfolding every_square squares has
off_east = refl

west_of_first : every_square (λ k. is_same_bool (file_of k == 0 || nat_lt k 9) (file_of k == 0 || nat_lt k 8)) ≡ true
unfolding every_square squares
west_of_first = refl

east_of_first : every_square (λ k. is_same_bool (file_of k == 7 || nat_lt k 7) (file_of k == 7 || nat_lt k 8)) ≡ true
unfolding every_square squares
east_of_first = refl

second : every_square (λ k. is_same_bool (has 65280 k) (rank_of k == 1)) ≡ true
unfolding every_square squares has
second = refl

seventh : every_square (λ k. is_same_bool (has 71776119061217280 k) (rank_of k == 6)) ≡ true
unfolding every_square squares has
seventh = refl

pub second_rank : (k : ℕ) → k < 64 → has 65280 k ≡ (rank_of k == 1)
second_rank = same_at (has 65280) (λ k. rank_of k == 1) second

pub seventh_rank : (k : ℕ) → k < 64 → has 71776119061217280 k ≡ (rank_of k == 6)
seventh_rank = same_at (has 71776119061217280) (λ k. rank_of k == 6) seventh

pub white_ahead : (n k : ℕ) → has (n / 2 ^ 8) k ≡ has n (ahead White k)
white_ahead n k = has_down n 8 k

pub black_ahead : (n k : ℕ) → n < 2 ^ 64 → k < 64 → has (n * 2 ^ 8 % 2 ^ 64) k ≡ has n (ahead Black k)
black_ahead n k small h = up n 8 k small h

pub white_west : (n k : ℕ) → n < 2 ^ 64 → k < 64 → has (bit_and (n / 2 ^ 7) 18374403900871474942) k ≡ has n (ahead_west White k)
white_west n k small h =
    has_and (n / 2 ^ 7) 18374403900871474942 k
    ∙ (λ i. has_down n 7 k i && same_at (has 18374403900871474942) (λ k. not (file_of k == 0)) off_west k h i)
    ∙ masked (file_of k == 0) n (k + 7) small

pub white_east : (n k : ℕ) → n < 2 ^ 64 → k < 64 → has (bit_and (n / 2 ^ 9) 9187201950435737471) k ≡ has n (ahead_east White k)
white_east n k small h =
    has_and (n / 2 ^ 9) 9187201950435737471 k
    ∙ (λ i. has_down n 9 k i && same_at (has 9187201950435737471) (λ k. not (file_of k == 7)) off_east k h i)
    ∙ masked (file_of k == 7) n (k + 9) small

pub black_west : (n k : ℕ) → n < 2 ^ 64 → k < 64 → has (bit_and (n * 2 ^ 9 % 2 ^ 64) 18374403900871474942) k ≡ has n (ahead_west Black k)
black_west n k small h =
    has_and (n * 2 ^ 9 % 2 ^ 64) 18374403900871474942 k
    ∙ ap (λ x. has (n * 2 ^ 9 % 2 ^ 64) k && x) (same_at (has 18374403900871474942) (λ k. not (file_of k == 0)) off_west k h)
    ∙ masked_up (file_of k == 0) n 9 k small h
    ∙ ap (λ t. has n (cond t 64 (k - 9))) (same_at (λ k. file_of k == 0 || nat_lt k 9) (λ k. file_of k == 0 || nat_lt k 8) west_of_first k h)

pub black_east : (n k : ℕ) → n < 2 ^ 64 → k < 64 → has (bit_and (n * 2 ^ 7 % 2 ^ 64) 9187201950435737471) k ≡ has n (ahead_east Black k)
black_east n k small h =
    has_and (n * 2 ^ 7 % 2 ^ 64) 9187201950435737471 k
    ∙ ap (λ x. has (n * 2 ^ 7 % 2 ^ 64) k && x) (same_at (has 9187201950435737471) (λ k. not (file_of k == 7)) off_east k h)
    ∙ masked_up (file_of k == 7) n 7 k small h
    ∙ ap (λ t. has n (cond t 64 (k - 7))) (same_at (λ k. file_of k == 7 || nat_lt k 7) (λ k. file_of k == 7 || nat_lt k 8) east_of_first k h)

-- from the rank where pawns begin there is a square ahead
pub begins_below : (side : Side) (k : ℕ) → k < 64 → (rank_of k == pawn_rank side) ≡ true → ahead side k < 64
begins_below White k h e = let r = eqb-true (k / 8) 1 e in omega arith
begins_below Black k h e =
    let r = eqb-true (k / 8) 6 e in
    subst (λ t. cond t 64 (k - 8) < 64) (sym (le-ltb k 8 (omega arith))) (omega arith)

-- two squares ahead, by what is ahead of the next square
pub two_ahead_has : (side : Side) (n crossed twice empty k : ℕ) → n < 2 ^ 64 → k < 64 → ((j : ℕ) → j < 64 → has crossed j ≡ (has empty j && has n (ahead side j))) →
    has twice k ≡ has crossed (ahead side k) → ((rank_of k == pawn_rank side) && has twice k) ≡ (has empty (ahead side k) && has n (two_ahead side k))
two_ahead_has side n crossed twice empty k small h over e = by_rank (rank_of k == pawn_rank side) refl
  where
    by_rank : (begins : Bool) → (rank_of k == pawn_rank side) ≡ begins → (begins && has twice k) ≡ (has empty (ahead side k) && has n (cond begins (ahead side (ahead side k)) 64))
    by_rank true b = e ∙ over (ahead side k) (begins_below side k h b)
    by_rank false b = sym (ap (λ x. has empty (ahead side k) && x) (nowhere n small) ∙ and-false (has empty (ahead side k)))

-- a set has as many squares as there are that belong to it
ones_total : (n j : ℕ) → count_ones (n % 2 ^ j) ≡ total (λ k. one_if (has n k)) j
ones_total n zero = (λ i. count_ones (mod-one n i)) ∙ ones_zero
ones_total n (suc j) = omega (arith, ones_total n j, ones_suc n j, bit_by n j (has n j) refl)

pub size_total : (n : ℕ) → n < 2 ^ 64 → count_ones n ≡ total (λ k. one_if (has n k)) 64
size_total n small = sym (ap count_ones (mod-eq_of_lt small)) ∙ ones_total n 64

pub total_of_four : (f a b c d : ℕ → ℕ) (n : ℕ) → ((k : ℕ) → k < n → f k ≡ a k + b k + c k + d k) → total f n ≡ total a n + total b n + total c n + total d n
total_of_four f a b c d zero e = refl
total_of_four f a b c d (suc n) e = omega (arith, total_of_four f a b c d n (λ k h. e k (omega arith)), e n (omega arith))

-- the ways of all pawns of a set, by the squares from which pawns go in each direction
pub counted_ways : (side : Side) (pawns empty steps captures a b c d : ℕ) → bit_and pawns a < 2 ^ 64 → bit_and pawns b < 2 ^ 64 → bit_and pawns c < 2 ^ 64 → bit_and pawns d < 2 ^ 64 →
    ((k : ℕ) → k < 64 → has a k ≡ has steps (ahead side k)) →
    ((k : ℕ) → k < 64 → has b k ≡ (has empty (ahead side k) && has steps (two_ahead side k))) →
    ((k : ℕ) → k < 64 → has c k ≡ has captures (ahead_west side k)) →
    ((k : ℕ) → k < 64 → has d k ≡ has captures (ahead_east side k)) →
    count_ones (bit_and pawns a) + count_ones (bit_and pawns b) + count_ones (bit_and pawns c) + count_ones (bit_and pawns d) ≡ ways side pawns empty steps captures
unfolding ways
counted_ways side pawns empty steps captures a b c d sa sb sc sd ea eb ec ed =
    (λ i. size_total (bit_and pawns a) sa i + size_total (bit_and pawns b) sb i + size_total (bit_and pawns c) sc i + size_total (bit_and pawns d) sd i)
    ∙ sym (total_of_four (λ k. cond (has pawns k) (ways_from side empty steps captures k) 0)
    (λ k. one_if (has (bit_and pawns a) k)) (λ k. one_if (has (bit_and pawns b) k)) (λ k. one_if (has (bit_and pawns c) k)) (λ k. one_if (has (bit_and pawns d) k)) 64
    (λ k h. by_pawn (has pawns k) (has steps (ahead side k)) (has empty (ahead side k) && has steps (two_ahead side k)) (has captures (ahead_west side k)) (has captures (ahead_east side k))
    ∙ sym (λ i. one_if ((has_and pawns a k ∙ ap (λ x. has pawns k && x) (ea k h)) i) + one_if ((has_and pawns b k ∙ ap (λ x. has pawns k && x) (eb k h)) i)
    + one_if ((has_and pawns c k ∙ ap (λ x. has pawns k && x) (ec k h)) i) + one_if ((has_and pawns d k ∙ ap (λ x. has pawns k && x) (ed k h)) i))))
  where
    by_pawn : (p w x y z : Bool) → cond p (one_if w + one_if x + one_if y + one_if z) 0 ≡ one_if (p && w) + one_if (p && x) + one_if (p && y) + one_if (p && z)
    by_pawn true w x y z = refl
    by_pawn false w x y z = refl

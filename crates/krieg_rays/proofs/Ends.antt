-- The lowest and the highest square of a set, and the sets up to the one and from the other on.
use Rattle.std.proofs.Common.{◌≡◌, ℕ, zero, suc, ◌+◌, ◌-◌, ◌*◌, ◌/◌, ◌%◌, ◌^◌, ◌<◌, ◌≤◌, Bool, true, false, not, ◌&&◌, ◌||◌, ◌⊎◌, inl, inr, refl, sym, ◌∙◌, ap, arith, subst, bit_or, w64, nat_le, nat_lt}
use Rattle.std.specs.Int.{bit_at, trailing_zeros}
use Rattle.std.specs.Int.RustNames.{bit_xor}
use Rattle.std.proofs.lemmas.Bool.{and_right, cases_lt, le-leb, lt-leb, lt-ltb, le-ltb}
use Rattle.std.proofs.lemmas.Nat.{leading_top, or_lt, le_or_r, le-div, div_below, shl_whole}
use Rattle.std.proofs.lemmas.Nat.Bits.{bit_at_mask_inside, bit_at_mask_below, bit_at_ones, bit_at_ones_above, bit_at_above, ones_shl}
use lib.Count.{count_leading_zeros}
use Rattle.krieg_rays.proofs.Common.{every_square, has, IsLowest, none_below, none_above}
use Rattle.krieg_board.proofs.SquareTests.{every_square_all, every_square_not}
use Rattle.krieg_board.proofs.SetLemmas.{lowest, has_up_to, has_zero, has_bit, has_no_bit, has_or, has_all}

none_below_zero : (k : ℕ) → none_below 0 k ≡ true
unfolding none_below
none_below_zero k = every_square_all (λ j. not (nat_lt j k && has 0 j)) (λ j h. ap not (and_right (nat_lt j k) (has 0 j) (has_zero j)))

none_below_lowest : (n t k : ℕ) → IsLowest n t → none_below n k ≡ nat_le k t
unfolding none_below
none_below_lowest n t k l = go (cases_lt t k)
  where
    each : k ≤ t → (j : ℕ) → (j < k) ⊎ (k ≤ j) → not (nat_lt j k && has n j) ≡ true
    each h j (inl b) = ap not (and_right (nat_lt j k) (has n j) (l.first j (omega arith)))
    each h j (inr b) = ap (λ x. not (x && has n j)) (le-ltb j k b)

    go : (t < k) ⊎ (k ≤ t) → every_square (λ j. not (nat_lt j k && has n j)) ≡ nat_le k t
    go (inr h) = every_square_all (λ j. not (nat_lt j k && has n j)) (λ j _. each h j (cases_lt j k)) ∙ sym (le-leb k t h)
    go (inl h) = every_square_not (λ j. not (nat_lt j k && has n j)) t l.below (λ i. not (lt-ltb t k h i && l.member i)) ∙ sym (lt-leb k t h)

pub up_to_none_below : (n k : ℕ) → n < 2 ^ 64 → k < 64 → has (bit_xor n ((n + 18446744073709551615) % 18446744073709551616)) k ≡ none_below n k
up_to_none_below zero k h hk = has_all k hk ∙ sym (none_below_zero k)
up_to_none_below (suc m) k h hk =
    let n = suc m in
    let less : (n + 18446744073709551615) % 18446744073709551616 ≡ n - 1 = omega arith in
    let some : 0 < n = omega arith in
    ap (λ x. has (bit_xor n x) k) less ∙ has_up_to n k some h ∙ sym (none_below_lowest n (trailing_zeros w64 n) k (lowest n some h))

-- the squares from s on
pub has_from : (s k : ℕ) → s < 64 → k < 64 → has (18446744073709551615 * 2 ^ s % 18446744073709551616) k ≡ nat_le s k
has_from s k hs hk = ap (λ x. has x k) (ones_shl 64 s (omega arith)) ∙ go (cases_lt k s)
  where
    go : (k < s) ⊎ (s ≤ k) → has (2 ^ 64 - 2 ^ s) k ≡ nat_le s k
    go (inr h) = has_bit (2 ^ 64 - 2 ^ s) k (bit_at_mask_inside s 64 k h hk) ∙ sym (le-leb s k h)
    go (inl h) = has_no_bit (2 ^ 64 - 2 ^ s) k (bit_at_mask_below s 64 k h) ∙ sym (lt-leb s k h)

-- the squares before s
pub has_before : (s k : ℕ) → s < 64 → has (1 * 2 ^ s % 18446744073709551616 - 1) k ≡ nat_lt k s
has_before s k h = ap (λ x. has (x - 1) k) (shl_whole 1 1 s 64 (omega arith) (omega arith) ∙ mul_one (2 ^ s)) ∙ go (cases_lt k s)
  where
    mul_one : (n : ℕ) → 1 * n ≡ n
    mul_one n = omega arith

    go : (k < s) ⊎ (s ≤ k) → has (2 ^ s - 1) k ≡ nat_lt k s
    go (inr h) = has_no_bit (2 ^ s - 1) k (bit_at_ones_above s k h) ∙ sym (le-ltb k s h)
    go (inl h) = has_bit (2 ^ s - 1) k (bit_at_ones s k h) ∙ sym (lt-ltb k s h)

-- no square of the set is above t, and t belongs to it, unless t is 0
record IsHighest (n t : ℕ) : Type 0 where
  below : t < 64
  member : 0 < t → has n t ≡ true
  last : (i : ℕ) → t < i → has n i ≡ false

none_above_highest : (n t k : ℕ) → IsHighest n t → none_above n k ≡ nat_le t k
unfolding none_above
none_above_highest n t k l = go (cases_lt k t)
  where
    each : t ≤ k → (j : ℕ) → (k < j) ⊎ (j ≤ k) → not (nat_lt k j && has n j) ≡ true
    each h j (inl b) = ap not (and_right (nat_lt k j) (has n j) (l.last j (omega arith)))
    each h j (inr b) = ap (λ x. not (x && has n j)) (le-ltb k j b)

    go : (k < t) ⊎ (t ≤ k) → every_square (λ j. not (nat_lt k j && has n j)) ≡ nat_le t k
    go (inr h) = every_square_all (λ j. not (nat_lt k j && has n j)) (λ j _. each h j (cases_lt k j)) ∙ sym (le-leb t k h)
    go (inl h) =
        every_square_not (λ j. not (nat_lt k j && has n j)) t l.below (λ i. not (lt-ltb k t h i && l.member (omega arith) i)) ∙ sym (lt-leb t k h)

-- the highest square of a set, and 0 where it has none
highest : (n : ℕ) → n < 2 ^ 64 → IsHighest n (63 - count_leading_zeros 64 (bit_or n 1))
highest n h =
    let a = bit_or n 1 in
    let some : 0 < a = omega (arith, le_or_r n 1) in
    let (j, e, low, high) = leading_top 64 a some (or_lt 64 n 1 h (omega arith)) in
    let t : 63 - count_leading_zeros 64 a ≡ j = omega arith in
    subst (IsHighest n) (sym t) (record {
      below = omega arith;
      member = λ pos. left (has n j) (has 1 j) (sym (has_or n 1 j) ∙ has_bit a j (top_bit a j low high)) (has_no_bit 1 j (bit_at_above 1 1 j (omega arith) (omega arith)));
      last = λ i l. first (has n i) (has 1 i) (sym (has_or n 1 i) ∙ has_no_bit a i (bit_at_above a (suc j) i high (omega arith)));
    })
  where
    left : (x y : Bool) → (x || y) ≡ true → y ≡ false → x ≡ true
    left true y e f = refl
    left false y e f = sym f ∙ e

    first : (x y : Bool) → (x || y) ≡ false → x ≡ false
    first true y e = e
    first false y e = refl

    twice : (j : ℕ) → 2 ^ suc j ≡ 2 * 2 ^ j
    twice j = omega arith

    quotient : (a m : ℕ) → m ≤ a → a < 2 * m → a / m ≡ 1
    quotient a m low high =
        let some : 0 < m = omega arith in
        let least : 1 ≤ a / m = le-div 1 a m some (omega arith) in
        let most : a / m < 2 = div_below a m 2 some high in
        omega arith

    top_bit : (a j : ℕ) → 2 ^ j ≤ a → a < 2 ^ suc j → bit_at a j ≡ 1
    top_bit a j low high =
        let one : a / 2 ^ j ≡ 1 = quotient a (2 ^ j) low (omega (arith, twice j)) in
        ap (λ x. x % 2) one

pub from_none_above : (n k : ℕ) → n < 2 ^ 64 → k < 64 → has (18446744073709551615 * 2 ^ (63 - count_leading_zeros 64 (bit_or n 1)) % 18446744073709551616) k ≡ none_above n k
from_none_above n k h hk =
    let t = 63 - count_leading_zeros 64 (bit_or n 1) in
    let top = highest n h in
    has_from t k top.below hk ∙ sym (none_above_highest n t k top)

pub leading_or_one : (n : ℕ) → n < 2 ^ 64 → count_leading_zeros 64 (bit_or n 1) ≤ 63
leading_or_one n h =
    let some : 0 < bit_or n 1 = omega (arith, le_or_r n 1) in
    let (j, e, low, high) = leading_top 64 (bit_or n 1) some (or_lt 64 n 1 h (omega arith)) in
    omega arith

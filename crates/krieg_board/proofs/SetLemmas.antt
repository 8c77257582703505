-- Which squares belong to an intersection, a union, a difference and a complement, and what a set is without its lowest square.
use Rattle.std.proofs.Common.{◌≡◌, ℕ, zero, suc, ◌+◌, ◌-◌, ◌*◌, ◌/◌, ◌%◌, ◌^◌, ◌<◌, Bool, true, false, not, ◌&&◌, ◌||◌, ◌==◌, refl, sym, ◌∙◌, ap, arith, min, max, bit_and, bit_or, w64, nat_le, ◌⊎◌, inl, inr}
use Rattle.std.proofs.lemmas.Nat.{pow_pos, mod_below}
use Rattle.std.proofs.lemmas.Bool.{eqb-true, eq-eqb, ne_eqb, le-leb, lt-leb, cases_order, both_ways}
use Rattle.std.proofs.Math.Pow.{split}
use Rattle.std.specs.Int.{bit_at, trailing_zeros}
use Rattle.std.specs.Int.RustNames.{bit_xor}
use Rattle.std.proofs.lemmas.Nat.Bits.{bit_at_and, bit_at_or, bit_at_xor, bit_at-lt, bit_at-zero, bit_at-pow_same, bit_at-pow_other, bit_at_ones, same_from_bits_below, bit_at_cat_low, bit_at_cat_high, bit_at-trailing_zeros, bit_at_not, bit_at_ones_above, shr_and_one}
use Rattle.krieg_board.proofs.Common.{has, IsLowest}

-- the last bit of a set, moved down by the number of a square
pub has_shifted : (n k : ℕ) → (bit_and (n / 2 ^ k) 1 == 1) ≡ has n k
unfolding has
has_shifted n k = ap (λ x. x == 1) (shr_and_one n k)

pub ruleset shifted = (has_shifted)

both_one : (x y : ℕ) → x < 2 → y < 2 → (min x y == 1) ≡ (x == 1 && y == 1)
both_one zero zero h k = refl
both_one zero (suc zero) h k = refl
both_one (suc zero) zero h k = refl
both_one (suc zero) (suc zero) h k = refl
both_one (suc (suc x)) y h k = absurd (omega arith)
both_one x (suc (suc y)) h k = absurd (omega arith)

either_one : (x y : ℕ) → x < 2 → y < 2 → (max x y == 1) ≡ (x == 1 || y == 1)
either_one zero zero h k = refl
either_one zero (suc zero) h k = refl
either_one (suc zero) zero h k = refl
either_one (suc zero) (suc zero) h k = refl
either_one (suc (suc x)) y h k = absurd (omega arith)
either_one x (suc (suc y)) h k = absurd (omega arith)

pub has_and : (a b k : ℕ) → has (bit_and a b) k ≡ (has a k && has b k)
unfolding has
has_and a b k = ap (λ x. x == 1) (bit_at_and a b k) ∙ both_one (bit_at a k) (bit_at b k) (bit_at-lt a k) (bit_at-lt b k)

pub has_or : (a b k : ℕ) → has (bit_or a b) k ≡ (has a k || has b k)
unfolding has
has_or a b k = ap (λ x. x == 1) (bit_at_or a b k) ∙ either_one (bit_at a k) (bit_at b k) (bit_at-lt a k) (bit_at-lt b k)

-- a square belongs to an exclusive union where it belongs to just one
abbrev pub differ : Bool → Bool → Bool
differ true b = not b
differ false b = b

one_of_two : (x y : ℕ) → x < 2 → y < 2 → ((x + y) % 2 == 1) ≡ differ (x == 1) (y == 1)
one_of_two zero zero h k = refl
one_of_two zero (suc zero) h k = refl
one_of_two (suc zero) zero h k = refl
one_of_two (suc zero) (suc zero) h k = refl
one_of_two (suc (suc x)) y h k = absurd (omega arith)
one_of_two x (suc (suc y)) h k = absurd (omega arith)

pub has_xor : (a b k : ℕ) → has (bit_xor a b) k ≡ differ (has a k) (has b k)
unfolding has
has_xor a b k = ap (λ x. x == 1) (bit_at_xor a b k) ∙ one_of_two (bit_at a k) (bit_at b k) (bit_at-lt a k) (bit_at-lt b k)

pub has_bit : (n k : ℕ) → bit_at n k ≡ 1 → has n k ≡ true
unfolding has
has_bit n k e = ap (λ x. x == 1) e

pub has_no_bit : (n k : ℕ) → bit_at n k ≡ 0 → has n k ≡ false
unfolding has
has_no_bit n k e = ap (λ x. x == 1) e

pub has_same : (m n k : ℕ) → bit_at m k ≡ bit_at n k → has m k ≡ has n k
unfolding has
has_same m n k e = ap (λ x. x == 1) e

bit_has : (n k : ℕ) → has n k ≡ true → bit_at n k ≡ 1
unfolding has
bit_has n k e = eqb-true (bit_at n k) 1 e

no_bit : (n k : ℕ) → has n k ≡ false → bit_at n k ≡ 0
unfolding has
no_bit n k e = by_size (bit_at n k) (bit_at-lt n k) e
  where
    by_size : (x : ℕ) → x < 2 → (x == 1) ≡ false → x ≡ 0
    by_size zero h e = refl
    by_size (suc zero) h e = cc
    by_size (suc (suc x)) h e = absurd (omega arith)

pub has_zero : (k : ℕ) → has 0 k ≡ false
has_zero k = has_no_bit 0 k (bit_at-zero k)

pub has_all : (k : ℕ) → k < 64 → has (2 ^ 64 - 1) k ≡ true
has_all k h = has_bit (2 ^ 64 - 1) k (bit_at_ones 64 k h)

pub has_not : (n k : ℕ) → n < 2 ^ 64 → k < 64 → has (18446744073709551615 - n) k ≡ not (has n k)
unfolding has
has_not n k h hk = ap (λ x. x == 1) (bit_at_not w64 n k h hk) ∙ turned (bit_at n k) (bit_at-lt n k)
  where
    turned : (x : ℕ) → x < 2 → (1 - x == 1) ≡ not (x == 1)
    turned zero h = refl
    turned (suc zero) h = refl
    turned (suc (suc x)) h = absurd (omega arith)

-- the set of one square, as a shift makes it
pub has_place : (s k : ℕ) → s < 64 → k < 64 → has (1 * 2 ^ s % 18446744073709551616) k ≡ (k == s)
has_place s k hs hk = ap (λ n. has n k) (whole s hs) ∙ by_place (cases_order k s)
  where
    whole : (s : ℕ) → s < 64 → 1 * 2 ^ s % 18446744073709551616 ≡ 2 ^ s
    whole s h = search (arith, Rattle.std.proofs.lemmas.Nat.mod_low, Rattle.std.proofs.lemmas.Nat.pow_below)

    by_place : (k ≡ s) ⊎ ((k < s) ⊎ (s < k)) → has (2 ^ s) k ≡ (k == s)
    by_place (inl e) = ap (has (2 ^ s)) e ∙ has_bit (2 ^ s) s (bit_at-pow_same s) ∙ sym (eq-eqb k s e)
    by_place (inr (inl l)) = has_no_bit (2 ^ s) k (bit_at-pow_other s k (λ e. omega arith)) ∙ sym (ne_eqb k s (λ e. omega arith))
    by_place (inr (inr l)) = has_no_bit (2 ^ s) k (bit_at-pow_other s k (λ e. omega arith)) ∙ sym (ne_eqb k s (λ e. omega arith))

-- sets with the same squares are the same number
pub same_sets : (a b : ℕ) → a < 2 ^ 64 → b < 2 ^ 64 → ((k : ℕ) → k < 64 → has a k ≡ has b k) → a ≡ b
unfolding has
same_sets a b ha hb e = same_from_bits_below 64 a b ha hb (λ i h. bits (bit_at a i) (bit_at b i) (bit_at-lt a i) (bit_at-lt b i) (e i h))
  where
    bits : (x y : ℕ) → x < 2 → y < 2 → (x == 1) ≡ (y == 1) → x ≡ y
    bits zero zero h k e = refl
    bits (suc zero) (suc zero) h k e = refl
    bits zero (suc zero) h k e = cc
    bits (suc zero) zero h k e = cc
    bits (suc (suc x)) y h k e = absurd (omega arith)
    bits x (suc (suc y)) h k e = absurd (omega arith)

-- a number that is not 0, by its lowest bit
record Cut (n t : ℕ) : Type 0 where
  high : ℕ
  is : n ≡ high * 2 ^ suc t + 2 ^ t
  lowest : IsLowest n t

pow_suc : (t : ℕ) → 2 ^ suc t ≡ 2 * 2 ^ t
pow_suc t = omega arith

cut : (n : ℕ) → 0 < n → n < 2 ^ 64 → Cut n (trailing_zeros w64 n)
cut n pos small =
    let (below, one, zeros) = bit_at-trailing_zeros w64 n pos small in
    let t = trailing_zeros w64 n in
    let rest : n % 2 ^ t ≡ 0 =
    same_from_bits_below t (n % 2 ^ t) 0 (mod_below n (2 ^ t) (pow_pos t)) (pow_pos t)
    (λ i h. sym (bit_at_cat_low (n / 2 ^ t) t (n % 2 ^ t) i h) ∙ ap (λ x. bit_at x i) (split n t) ∙ zeros i h ∙ sym (bit_at-zero i)) in
    record {
      high = n / 2 ^ t / 2;
      is = odd_multiple n t rest one;
      lowest = record { below = below; member = has_bit n t one; first = λ i h. has_no_bit n i (zeros i h) };
    }
  where
    doubled : (a m : ℕ) → (2 * a + 1) * m ≡ a * (2 * m) + m
    doubled a m = omega arith

    odd : (q : ℕ) → q % 2 ≡ 1 → q ≡ 2 * (q / 2) + 1
    odd q h = omega arith

    odd_multiple : (n t : ℕ) → n % 2 ^ t ≡ 0 → n / 2 ^ t % 2 ≡ 1 → n ≡ n / 2 ^ t / 2 * 2 ^ suc t + 2 ^ t
    odd_multiple n t rest one =
        let q = n / 2 ^ t in
        let whole : q * 2 ^ t ≡ n = omega (arith, split n t) in
        sym whole ∙ ap (λ x. x * 2 ^ t) (odd q one) ∙ doubled (q / 2) (2 ^ t) ∙ ap (λ p. q / 2 * p + 2 ^ t) (sym (pow_suc t))

pub lowest : (n : ℕ) → 0 < n → n < 2 ^ 64 → IsLowest n (trailing_zeros w64 n)
lowest n pos small = (cut n pos small).lowest

-- a set has one lowest square
pub same_lowest : (n s t : ℕ) → IsLowest n s → IsLowest n t → s ≡ t
same_lowest n s t a b = by_order (cases_order s t)
  where
    by_order : (s ≡ t) ⊎ ((s < t) ⊎ (t < s)) → s ≡ t
    by_order (inl e) = e
    by_order (inr (inl l)) = absurd (both_ways (has n s) (b.first s l) a.member)
    by_order (inr (inr l)) = absurd (both_ways (has n t) (a.first t l) b.member)

less : (n t : ℕ) (c : Cut n t) → n - 1 ≡ c.high * 2 ^ suc t + (2 ^ t - 1)
less n t c = omega (arith, c.is, pow_pos t)

same_above : (n t k : ℕ) → Cut n t → t < k → bit_at (n - 1) k ≡ bit_at n k
same_above n t k c h =
    ap (λ x. bit_at x k) (less n t c)
    ∙ bit_at_cat_high c.high (suc t) (2 ^ t - 1) k (omega (arith, pow_suc t, pow_pos t)) (omega arith)
    ∙ sym (bit_at_cat_high c.high (suc t) (2 ^ t) k (omega (arith, pow_suc t, pow_pos t)) (omega arith))
    ∙ ap (λ x. bit_at x k) (sym c.is)

ones_below : (n t k : ℕ) → Cut n t → k < t → bit_at (n - 1) k ≡ 1
ones_below n t k c h =
    ap (λ x. bit_at x k) (less n t c) ∙ bit_at_cat_low c.high (suc t) (2 ^ t - 1) k (omega arith) ∙ bit_at_ones t k h

zero_there : (n t : ℕ) → Cut n t → bit_at (n - 1) t ≡ 0
zero_there n t c =
    ap (λ x. bit_at x t) (less n t c) ∙ bit_at_cat_low c.high (suc t) (2 ^ t - 1) t (omega arith) ∙ bit_at_ones_above t t (omega arith)

rest_by_cut : (n t k : ℕ) → Cut n t → has (bit_and n (n - 1)) k ≡ (has n k && not (k == t))
rest_by_cut n t k c = has_and n (n - 1) k ∙ go (cases_order k t)
  where
    at : (a b : Bool) → b ≡ false → (a && b) ≡ (a && false)
    at a b e = ap (λ b. a && b) e

    above : (a b : Bool) → b ≡ a → (a && b) ≡ (a && true)
    above true b e = e
    above false b e = refl

    go : (k ≡ t) ⊎ ((k < t) ⊎ (t < k)) → (has n k && has (n - 1) k) ≡ (has n k && not (k == t))
    go (inl e) =
        at (has n k) (has (n - 1) k) (ap (has (n - 1)) e ∙ has_no_bit (n - 1) t (zero_there n t c))
        ∙ sym (ap (λ b. has n k && not b) (eq-eqb k t e))
    go (inr (inl h)) = ap (λ a. a && has (n - 1) k) (c.lowest.first k h) ∙ sym (ap (λ a. a && not (k == t)) (c.lowest.first k h))
    go (inr (inr h)) =
        above (has n k) (has (n - 1) k) (has_same (n - 1) n k (same_above n t k c h))
        ∙ sym (ap (λ b. has n k && not b) (ne_eqb k t (λ e. omega arith)))

-- a set without its lowest square
pub has_rest : (n s k : ℕ) → 0 < n → n < 2 ^ 64 → IsLowest n s → has (bit_and n (n - 1)) k ≡ (has n k && not (k == s))
has_rest n s k pos small l =
    rest_by_cut n (trailing_zeros w64 n) k (cut n pos small)
    ∙ ap (λ t. has n k && not (k == t)) (same_lowest n (trailing_zeros w64 n) s (lowest n pos small) l)

up_to_by_cut : (n t k : ℕ) → Cut n t → has (bit_xor n (n - 1)) k ≡ nat_le k t
up_to_by_cut n t k c = go (cases_order k t)
  where
    both : (x y z : ℕ) → bit_at n k ≡ x → bit_at (n - 1) k ≡ y → (x + y) % 2 ≡ z → bit_at (bit_xor n (n - 1)) k ≡ z
    both x y z e f g = bit_at_xor n (n - 1) k ∙ (λ i. (e i + f i) % 2) ∙ g

    doubled : (x : ℕ) → (x + x) % 2 ≡ 0
    doubled x = omega arith

    go : (k ≡ t) ⊎ ((k < t) ⊎ (t < k)) → has (bit_xor n (n - 1)) k ≡ nat_le k t
    go (inl e) =
        has_bit (bit_xor n (n - 1)) k (both 1 0 1 (ap (bit_at n) e ∙ bit_has n t c.lowest.member) (ap (bit_at (n - 1)) e ∙ zero_there n t c) refl)
        ∙ sym (le-leb k t (omega arith))
    go (inr (inl h)) = has_bit (bit_xor n (n - 1)) k (both 0 1 1 (no_bit n k (c.lowest.first k h)) (ones_below n t k c h) refl) ∙ sym (le-leb k t (omega arith))
    go (inr (inr h)) =
        has_no_bit (bit_xor n (n - 1)) k (both (bit_at n k) (bit_at n k) 0 refl (same_above n t k c h) (doubled (bit_at n k)))
        ∙ sym (lt-leb k t h)

-- the squares up to the lowest of a set
pub has_up_to : (n k : ℕ) → 0 < n → n < 2 ^ 64 → has (bit_xor n (n - 1)) k ≡ nat_le k (trailing_zeros w64 n)
has_up_to n k pos small = up_to_by_cut n (trailing_zeros w64 n) k (cut n pos small)

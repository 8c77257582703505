-- How many squares a set has, and how many places of a board pass the test of its squares.
use Rattle.std.proofs.Common.{◌≡◌, ℕ, zero, suc, ◌+◌, ◌*◌, ◌%◌, ◌^◌, ◌<◌, ◌≤◌, Bool, true, false, ◌==◌, cond, length, take, count_ones, refl, sym, ◌∙◌, ap, arith, mod-eq_of_lt}
use Rattle.std.specs.Prelude.{Option, None, count_by}
use Rattle.std.specs.Int.{bit_at}
use Rattle.std.proofs.Math.Nat.{mod-one}
use Rattle.std.proofs.Math.Seq.{take-length}
use Rattle.std.proofs.lemmas.Nat.{mod_below, pow_pos, ones_cat, mod-pow-add, ones-le, zero_from_ones}
use Rattle.std.proofs.lemmas.Nat.Bits.{bit_at-lt}
use Rattle.std.proofs.lemmas.List.Sums.{count_by_more_yes, count_by_more_no}
use Rattle.krieg_board.proofs.Common.{Man, Board, man_at, has}

-- a set without squares
pub ones_zero : count_ones 0 ≡ 0
ones_zero = omega (arith, ones-le 0 0 (omega arith))

ones_bit : (b : ℕ) → b < 2 → count_ones b ≡ b
ones_bit zero h = ones_zero
ones_bit (suc zero) h = by_size (count_ones 1) (ones-le 1 1 (omega arith)) (zero_from_ones 1)
  where
    by_size : (c : ℕ) → c ≤ 1 → (c ≡ 0 → suc zero ≡ zero) → c ≡ suc zero
    by_size zero l e = absurd (omega (arith, e refl))
    by_size (suc zero) l e = refl
    by_size (suc (suc c)) l e = absurd (omega arith)
ones_bit (suc (suc b)) h = absurd (omega arith)

-- one bit more of a number
pub ones_suc : (n k : ℕ) → count_ones (n % 2 ^ suc k) ≡ count_ones (n % 2 ^ k) + bit_at n k
ones_suc n k =
    let s : suc k ≡ 1 + k = omega arith in
    let cat = ones_cat k (bit_at n k) (n % 2 ^ k) (mod_below n (2 ^ k) (pow_pos k)) in
    let low = ones_bit (bit_at n k) (bit_at-lt n k) in
    let e : count_ones (n % 2 ^ suc k) ≡ count_ones (bit_at n k * 2 ^ k + n % 2 ^ k) = ap (λ x. count_ones (n % 2 ^ x)) s ∙ ap count_ones (mod-pow-add n 1 k) in
    omega (arith, e, cat, low)

-- a digit as a number
pub bit_by : (n k : ℕ) (t : Bool) → has n k ≡ t → bit_at n k ≡ cond t 1 0
unfolding has
bit_by n k t h = by_size (bit_at n k) t (bit_at-lt n k) h
  where
    by_size : (x : ℕ) (t : Bool) → x < 2 → (x == 1) ≡ t → x ≡ cond t 1 0
    by_size zero true h e = cc
    by_size zero false h e = refl
    by_size (suc zero) true h e = refl
    by_size (suc zero) false h e = cc
    by_size (suc (suc x)) t h e = absurd (omega arith)

-- the squares of a set below j are as many as the places before j that pass its test
counted_up_to : (q : Option Man → Bool) (b : Board) (n j : ℕ) → j ≤ length b → ((k : ℕ) → k < length b → has n k ≡ q (man_at b k)) → count_ones (n % 2 ^ j) ≡ count_by q (take j b)
counted_up_to q b n zero h e = (λ i. count_ones (mod-one n i)) ∙ ones_zero
counted_up_to q b n (suc j) h e =
    omega (arith, counted_up_to q b n j (omega arith) e, ones_suc n j, bit_by n j (has n j) refl, one_more (has n j) (e j (omega arith)))
  where
    next : suc j ≡ j + 1
    next = omega arith

    one_more : (t : Bool) → t ≡ q (man_at b j) → count_by q (take (suc j) b) ≡ count_by q (take j b) + cond t 1 0
    one_more true p = ap (λ x. count_by q (take x b)) next ∙ count_by_more_yes q b j None (omega arith) (sym p)
    one_more false p = ap (λ x. count_by q (take x b)) next ∙ omega (arith, count_by_more_no q b j None (omega arith) (sym p))

-- a set of the places of a board that pass a test has as many squares as there are such places
pub counted_set : (q : Option Man → Bool) (b : Board) (n : ℕ) → n < 2 ^ 64 → length b ≡ 64 → ((k : ℕ) → k < 64 → has n k ≡ q (man_at b k)) → count_ones n ≡ count_by q b
counted_set q b n small size e =
    sym (ap count_ones (ap (λ j. n % 2 ^ j) size ∙ mod-eq_of_lt small))
    ∙ counted_up_to q b n (length b) (omega arith) (λ k h. e k (omega arith))
    ∙ ap (count_by q) (take-length b)

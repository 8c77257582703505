-- Sets of squares moved by some squares: towards a1 by a shift to the right, and towards h8 by one to the left.
use Rattle.std.proofs.Common.{◌≡◌, ℕ, ◌+◌, ◌-◌, ◌*◌, ◌/◌, ◌%◌, ◌^◌, ◌<◌, ◌≤◌, false, ◌==◌, sym, ◌∙◌, ap, arith}
use Rattle.std.proofs.Math.Pow.{split}
use Rattle.std.proofs.lemmas.Nat.{pow_pos, mod_below}
use Rattle.std.proofs.lemmas.Nat.Bits.{bit_at-zero, bit_at_cat_low, bit_at_cat_high}
use Rattle.std.specs.Int.{bit_at}
use Rattle.krieg_moves.proofs.Common.{has}
use Rattle.krieg_board.proofs.SetLemmas.{has_no_bit}

pub has_down : (n d k : ℕ) → has (n / 2 ^ d) k ≡ has n (k + d)
unfolding has
has_down n d k =
    ap (λ x. x == 1)
    (sym (ap (λ x. bit_at x (k + d)) (sym (split n d))
    ∙ bit_at_cat_high (n / 2 ^ d) d (n % 2 ^ d) (k + d) (mod_below n (2 ^ d) (pow_pos d)) (omega arith)
    ∙ ap (bit_at (n / 2 ^ d)) (omega arith)))

bit_up : (n d k : ℕ) → k < 64 → bit_at (n * 2 ^ d % 2 ^ 64) k ≡ bit_at (n * 2 ^ d + 0) k
bit_up n d k h =
    sym (bit_at_cat_low (n * 2 ^ d / 2 ^ 64) 64 (n * 2 ^ d % 2 ^ 64) k h)
    ∙ ap (λ x. bit_at x k) (split (n * 2 ^ d) 64)
    ∙ ap (λ x. bit_at x k) (omega arith)

pub has_up : (n d k : ℕ) → k < 64 → d ≤ k → has (n * 2 ^ d % 2 ^ 64) k ≡ has n (k - d)
unfolding has
has_up n d k h l = ap (λ x. x == 1) (bit_up n d k h ∙ bit_at_cat_high n d 0 k (pow_pos d) l)

pub has_up_low : (n d k : ℕ) → k < 64 → k < d → has (n * 2 ^ d % 2 ^ 64) k ≡ false
has_up_low n d k h l = has_no_bit (n * 2 ^ d % 2 ^ 64) k (bit_up n d k h ∙ bit_at_cat_low n d 0 k l ∙ bit_at-zero k)

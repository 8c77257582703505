-- What is seen along a line: up to the lowest man above the square, and down to the highest below it.
use Rattle.std.proofs.Common.{◌≡◌, ℕ, ◌-◌, ◌*◌, ◌%◌, ◌^◌, ◌<◌, Bool, true, false, not, ◌&&◌, refl, sym, ◌∙◌, ap, arith, bit_and, nat_le, nat_lt, ◌≢◌}
use Rattle.std.proofs.lemmas.Bool.{both_ways}
use Rattle.std.proofs.lemmas.Bool.Decides.{nat_tests}
use Rattle.std.proofs.Math.Bool.{and-true, and_assoc}
use Rattle.krieg_rays.proofs.Common.{every_square, is_inside, has, none_below, none_above, is_seen}
use Rattle.krieg_board.proofs.SetLemmas.{has_and}
use Rattle.krieg_board.proofs.SameTests.{every_square_both, every_square_same}
use Rattle.krieg_rays.proofs.Ends.{has_from, has_before}

between_tests : (s j k : ℕ) → j ≢ s → (not (nat_lt j k && nat_le s j) && not (nat_lt k j && nat_lt j s)) ≡ not (is_inside s j k)
between_tests s j k h = grind (arith, nat_tests)

joined : (l o : Bool) (s j k : ℕ) → (l ≡ true → j ≢ s) →
    (not (nat_lt j k && ((l && o) && nat_le s j)) && not (nat_lt k j && ((l && o) && nat_lt j s))) ≡ not ((l && is_inside s j k) && o)
joined false o s j k h = no_line (nat_lt j k) (nat_lt k j)
  where
    no_line : (a b : Bool) → (not (a && false) && not (b && false)) ≡ true
    no_line true true = refl
    no_line true false = refl
    no_line false true = refl
    no_line false false = refl
joined true false s j k h = nobody (nat_lt j k) (nat_lt k j) (is_inside s j k)
  where
    nobody : (a b c : Bool) → (not (a && false) && not (b && false)) ≡ not (c && false)
    nobody true true true = refl
    nobody true false true = refl
    nobody false true true = refl
    nobody false false true = refl
    nobody true true false = refl
    nobody true false false = refl
    nobody false true false = refl
    nobody false false false = refl
joined true true s j k h = between_tests s j k (h refl) ∙ sym (ap not (and-true (is_inside s j k)))

pub seen : (line occupied s k up down : ℕ) → s < 64 → has line s ≡ false →
    has up k ≡ none_below (bit_and (bit_and line occupied) (18446744073709551615 * 2 ^ s % 18446744073709551616)) k →
    has down k ≡ none_above (bit_and (bit_and line occupied) (1 * 2 ^ s % 18446744073709551616 - 1)) k →
    has (bit_and (bit_and line up) down) k ≡ is_seen line occupied s k
unfolding none_below none_above is_seen
seen line occupied s k up down hs off hu hd =
    has_and (bit_and line up) down k
    ∙ (λ i. has_and line up k i && hd i)
    ∙ and_assoc (has line k) (has up k) (every_square below)
    ∙ (λ i. has line k && (hu i && every_square below))
    ∙ ap (λ x. has line k && x) (every_square_both above below ∙ every_square_same (λ j. above j && below j) (λ j. not ((has line j && is_inside s j k) && has occupied j)) each)
  where
    above : ℕ → Bool
    above j = not (nat_lt j k && has (bit_and (bit_and line occupied) (18446744073709551615 * 2 ^ s % 18446744073709551616)) j)

    below : ℕ → Bool
    below j = not (nat_lt k j && has (bit_and (bit_and line occupied) (1 * 2 ^ s % 18446744073709551616 - 1)) j)

    apart : (j : ℕ) → has line j ≡ true → j ≢ s
    apart j h e = both_ways (has line s) off (sym (ap (has line) e) ∙ h)

    each : (j : ℕ) → j < 64 → (above j && below j) ≡ not ((has line j && is_inside s j k) && has occupied j)
    each j hj =
        (λ i. not (nat_lt j k && (has_and (bit_and line occupied) (18446744073709551615 * 2 ^ s % 18446744073709551616) j i))
        && not (nat_lt k j && (has_and (bit_and line occupied) (1 * 2 ^ s % 18446744073709551616 - 1) j i)))
        ∙ (λ i. not (nat_lt j k && (has_and line occupied j i && has_from s j hs hj i)) && not (nat_lt k j && (has_and line occupied j i && has_before s j hs i)))
        ∙ joined (has line j) (has occupied j) s j k (apart j)

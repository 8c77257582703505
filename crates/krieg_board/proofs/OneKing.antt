-- A side with one king: where he stands, and that he alone decides whether a king of that side is attacked.
use Rattle.std.proofs.Common.{◌≡◌, ℕ, ◌<◌, Bool, true, not, ◌&&◌, ◌==◌, ◌⊎◌, inl, inr, refl, sym, ◌∙◌, ap, arith, length, bit_and, w64, ◌^◌}
use Rattle.std.proofs.lemmas.Bool.{and_from, and_parts, both_ways, eq-eqb, ne_eqb}
use Rattle.std.specs.Int.{trailing_zeros}
use Rattle.std.proofs.lemmas.Nat.{and_le_l}
use Rattle.krieg_board.proofs.Common.{Side, King, other, some_square, Board, man_at, is_of, is_man, is_attacked, is_king_attacked, count_kind, has, is_kind}
use Rattle.krieg_board.proofs.MenLemmas.{kind_side}
use Rattle.krieg_board.proofs.SquareTests.{some_square_at, some_square_none, some_square_tells}
use Rattle.krieg_board.proofs.SetLemmas.{has_and, has_zero, lowest}
use Rattle.krieg_board.proofs.SameTests.{same_tests}
use Rattle.krieg_board.proofs.Counting.{counted, one_place}

-- the one king of a side decides
pub one_king_attacked : (b : Board) (side : Side) (k : ℕ) → length b ≡ 64 → count_kind b side King ≡ 1 → k < 64 → is_man side King (man_at b k) ≡ true →
    is_king_attacked b side ≡ is_attacked b k (other side)
unfolding is_king_attacked
one_king_attacked b side k e one hk is =
    same_tests (some_square (λ k. is_man side King (man_at b k) && is_attacked b k (other side))) (is_attacked b k (other side))
    (λ h. let (j, hj, t) = some_square_tells (λ k. is_man side King (man_at b k) && is_attacked b k (other side)) h in
    let both = and_parts (is_man side King (man_at b j)) (is_attacked b j (other side)) t in
    let same : j ≡ k = one_place (is_man side King) refl b j k one (omega arith) (omega arith) both.0 is in
    ap (λ s. is_attacked b s (other side)) (sym same) ∙ both.1)
    (λ h. some_square_at (λ k. is_man side King (man_at b k) && is_attacked b k (other side)) k hk (and_from (is_man side King (man_at b k)) (is_attacked b k (other side)) is h))

cases_zero : (n : ℕ) → (n ≡ 0) ⊎ (0 < n)
cases_zero n = grind arith

-- a set is empty just where no square passes
pub set_empty : (n : ℕ) (test : ℕ → Bool) → n < 2 ^ 64 → ((k : ℕ) → k < 64 → has n k ≡ test k) → some_square test ≡ not (n == 0)
set_empty n test h e = by_size (cases_zero n)
  where
    by_size : (n ≡ 0) ⊎ (0 < n) → some_square test ≡ not (n == 0)
    by_size (inl z) = some_square_none test (λ k hk. sym (e k hk) ∙ ap (λ n. has n k) z ∙ has_zero k) ∙ sym (ap not (eq-eqb n 0 z))
    by_size (inr p) =
        let l = lowest n p h in
        some_square_at test (trailing_zeros w64 n) l.below (sym (e (trailing_zeros w64 n) l.below) ∙ l.member) ∙ sym (ap not (ne_eqb n 0 (λ z. omega arith)))

-- a set of squares that some square passes has a lowest, and it passes
pub lowest_passes : (n : ℕ) (test : ℕ → Bool) → n < 2 ^ 64 → ((k : ℕ) → k < 64 → has n k ≡ test k) → (j : ℕ) → j < 64 → test j ≡ true →
    (trailing_zeros w64 n < 64) × (test (trailing_zeros w64 n) ≡ true)
lowest_passes n test h e j hj is = by_size (cases_zero n)
  where
    by_size : (n ≡ 0) ⊎ (0 < n) → (trailing_zeros w64 n < 64) × (test (trailing_zeros w64 n) ≡ true)
    by_size (inl z) = absurd (both_ways (has n j) (ap (λ n. has n j) z ∙ has_zero j) (e j hj ∙ is))
    by_size (inr p) =
        let l = lowest n p h in
        (l.below, sym (e (trailing_zeros w64 n) l.below) ∙ l.member)

-- the king's square: the lowest of the kings of the side
pub king_there : (b : Board) (side : Side) (kings own : ℕ) → length b ≡ 64 → count_kind b side King ≡ 1 → kings < 2 ^ 64 →
    ((k : ℕ) → k < 64 → has kings k ≡ is_kind King (man_at b k)) → ((k : ℕ) → k < 64 → has own k ≡ is_of side (man_at b k)) →
    (trailing_zeros w64 (bit_and kings own) < 64) × (is_man side King (man_at b (trailing_zeros w64 (bit_and kings own))) ≡ true)
king_there b side kings own e one small hk ho =
    let (j, l, is) = counted (is_man side King) b (omega arith) in
    lowest_passes (bit_and kings own) (λ k. is_man side King (man_at b k)) (omega (arith, and_le_l kings own))
    (λ k h. has_and kings own k ∙ (λ i. hk k h i && ho k h i) ∙ kind_side King side (man_at b k)) j (omega arith) is

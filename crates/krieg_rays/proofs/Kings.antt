-- A side with one king: where he stands is the one answer of a search for kings; each side of a valid position has one.
use Rattle.std.proofs.Common.{◌≡◌, ℕ, ◌<◌, ◌≤◌, ◌⊎◌, inl, inr, Bool, true, false, ◌&&◌, ◌==◌, ◌∙◌, refl, sym, ap, length}
use Rattle.std.specs.Prelude.{Option, None}
use Rattle.std.proofs.lemmas.Bool.{and_from, and_parts, both_ways, cases_lt, eqb-true}
use Rattle.std.proofs.lemmas.List.{get_or_past}
use Rattle.krieg_rays.proofs.Common.{Side, White, Black, King, Man, some_square, Board, man_at, is_man, Pos, IsValid, count_kind}
use Rattle.krieg_board.proofs.Facts.{facts}
use Rattle.krieg_board.proofs.Counting.{one_place}
use Rattle.krieg_board.proofs.SquareTests.{some_square_at, some_square_tells}
use Rattle.krieg_board.proofs.SameTests.{same_tests}

-- a place where a man stands is on the board
pub standing : (q : Option Man → Bool) → q None ≡ false → (b : Board) (k : ℕ) → q (man_at b k) ≡ true → k < length b
standing q none b k h = by_place (cases_lt k (length b))
  where
    by_place : (k < length b) ⊎ (length b ≤ k) → k < length b
    by_place (inl l) = l
    by_place (inr past) = absurd (both_ways (q (man_at b k)) (ap q (get_or_past b k None past) ∙ none) h)

-- what holds of some king's square holds of that of the one king
pub king_search : (b : Board) (side : Side) (k : ℕ) → count_kind b side King ≡ 1 → k < 64 → is_man side King (man_at b k) ≡ true → (test : ℕ → Bool) →
    some_square (λ j. is_man side King (man_at b j) && test j) ≡ test k
king_search b side k one hk is test =
    same_tests (some_square (λ j. is_man side King (man_at b j) && test j)) (test k)
    (λ h. let (j, hj, t) = some_square_tells (λ j. is_man side King (man_at b j) && test j) h in
    let both = and_parts (is_man side King (man_at b j)) (test j) t in
    let same : j ≡ k = one_place (is_man side King) refl b j k one (standing (is_man side King) refl b j both.0) (standing (is_man side King) refl b k is) both.0 is in
    sym (ap test same) ∙ both.1)
    (λ h. some_square_at (λ j. is_man side King (man_at b j) && test j) k hk (and_from (is_man side King (man_at b k)) (test k) is h))

pub one_king : (p : Pos) (side : Side) → IsValid p → count_kind p.board side King ≡ 1
one_king p White v = eqb-true (count_kind p.board White King) 1 (and_parts (count_kind p.board White King == 1) (count_kind p.board Black King == 1) (facts p v).kings).0
one_king p Black v = eqb-true (count_kind p.board Black King) 1 (and_parts (count_kind p.board White King == 1) (count_kind p.board Black King == 1) (facts p v).kings).1

-- the same of a board that is that of a valid position
pub one_king_on : (b : Board) (p : Pos) (side : Side) → IsValid p → b ≡ p.board → count_kind b side King ≡ 1
one_king_on b p side v e = ap (λ b. count_kind b side King) e ∙ one_king p side v

-- Sets of squares that answer attacks, and of squares that are safe, gathered one attacker or square after another.
use Rattle.std.proofs.Common.{◌≡◌, ℕ, ◌<◌, Bool, true, false, not, ◌&&◌, ◌||◌, ◌==◌, ◌⊎◌, inl, inr, refl, sym, ◌∙◌, ap, bit_and, bit_or, ◌≢◌}
use Rattle.std.proofs.Math.Bool.{and_assoc}
use Rattle.std.proofs.lemmas.Bool.{and_parts, and_from, cases_eq, ne_eqb, or_right}
use Rattle.krieg_moves.proofs.Common.{Side, Board, man_at, is_of, attacks, is_between, every_square, has, IsLowest, answers, answers_all, is_answered}
use Rattle.krieg_board.proofs.SetLemmas.{has_and, has_or, has_zero}
use Rattle.krieg_board.proofs.SameTests.{same_tests, every_square_same}
use Rattle.krieg_board.proofs.SquareTests.{every_square_all, every_square_at}

-- no attackers are answered everywhere
pub answers_none : (k t n : ℕ) → n ≡ 0 → answers_all n k t ≡ true
unfolding answers_all
answers_none k t n z = every_square_all (λ s. not (has n s) || answers s k t) (λ s l. ap (λ x. not x || answers s k t) (ap (λ n. has n s) z ∙ has_zero s))

-- the lowest attacker, and the others
answers_first : (rest less s k t : ℕ) → IsLowest rest s → ((j : ℕ) → j < 64 → has less j ≡ (has rest j && not (j == s))) →
    answers_all rest k t ≡ (answers s k t && answers_all less k t)
unfolding answers_all
answers_first rest less s k t l others =
    same_tests (every_square of_rest) (answers s k t && every_square of_less)
    (λ h. and_from (answers s k t) (every_square of_less) (taken (has rest s) l.member (every_square_at of_rest h s l.below))
    (every_square_all of_less (λ j m. fewer (has rest j) (j == s) (answers j k t) (has less j) (others j m) (every_square_at of_rest h j m))))
    (λ h. let r = and_parts (answers s k t) (every_square of_less) h in
    every_square_all of_rest (λ j m. by_place j m r.0 (every_square_at of_less r.1 j m) (cases_eq j s)))
  where
    of_rest : ℕ → Bool
    of_rest j = not (has rest j) || answers j k t

    of_less : ℕ → Bool
    of_less j = not (has less j) || answers j k t

    taken : (x : Bool) → x ≡ true → (not x || answers s k t) ≡ true → answers s k t ≡ true
    taken true e h = h
    taken false e h = cc

    fewer : (x e a y : Bool) → y ≡ (x && not e) → (not x || a) ≡ true → (not y || a) ≡ true
    fewer true true a y q h = ap (λ y. not y || a) q
    fewer true false a y q h = ap (λ y. not y || a) q ∙ h
    fewer false e a y q h = ap (λ y. not y || a) q

    more : (x e a y : Bool) → e ≡ false → y ≡ (x && not e) → (not y || a) ≡ true → (not x || a) ≡ true
    more true e a y n q h = ap (λ y. not y || a) (sym (q ∙ ap not n)) ∙ h
    more false e a y n q h = refl

    by_place : (j : ℕ) → j < 64 → answers s k t ≡ true → of_less j ≡ true → (j ≡ s) ⊎ (j ≢ s) → of_rest j ≡ true
    by_place j m a h (inl e) = or_right (not (has rest j)) (answers j k t) (ap (λ j. answers j k t) e ∙ a)
    by_place j m a h (inr n) = more (has rest j) (j == s) (answers j k t) (has less j) (ne_eqb j s n) (others j m) h

-- a loop answers the lowest attacker of those that are left
pub answered_more : (found n m rest less s k t : ℕ) → IsLowest rest s → ((j : ℕ) → j < 64 → has less j ≡ (has rest j && not (j == s))) →
    has n t ≡ (t == s) → has m t ≡ is_between s k t →
    (has (bit_and found (bit_or n m)) t && answers_all less k t) ≡ (has found t && answers_all rest k t)
answered_more found n m rest less s k t l others en em =
    ap (λ x. x && answers_all less k t) (has_and found (bit_or n m) t ∙ ap (λ x. has found t && x) (has_or n m t ∙ (λ i. en i || em i)))
    ∙ and_assoc (has found t) (answers s k t) (answers_all less k t)
    ∙ ap (λ x. has found t && x) (sym (answers_first rest less s k t l others))

-- the attackers of a square by that side are those that are answered
pub answered_by_set : (b : Board) (by : Side) (n k t : ℕ) → ((s : ℕ) → s < 64 → has n s ≡ (is_of by (man_at b s) && attacks b s k)) → answers_all n k t ≡ is_answered b by k t
unfolding answers_all is_answered
answered_by_set b by n k t e =
    every_square_same (λ s. not (has n s) || answers s k t) (λ s. not (is_of by (man_at b s) && attacks b s k) || answers s k t) (λ s l. ap (λ x. not x || answers s k t) (e s l))

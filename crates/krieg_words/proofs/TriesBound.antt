-- A side has no more pawn tries than the most, and the sum over its pawns is all of them.
use Rattle.std.proofs.Common.{◌≡◌, ℕ, suc, ◌+◌, ◌-◌, ◌*◌, ◌≤◌, Bool, true, false, ◌||◌, cond, ◌==◌, nat_le, List, [], ◌∷◌, length, refl, arith, ◌∙◌, sym, ap, subst, ◌≢◌, eqb-true, eq-eqb}
use Rattle.std.proofs.lemmas.Bool.{and_parts, both_ways}
use Rattle.std.specs.Prelude.{Option, count_by}
use Rattle.std.specs.List.{range_with_len, sum_by}
use Rattle.std.proofs.lemmas.List.Sums.{sum_by-cons, sum_by-le-sum_by}
use Rattle.std.proofs.lemmas.Bool.Decides.{nat_tests}
use Rattle.krieg_words.proofs.Common.{Side, White, Black, Man, Pos, squares, file_of, rank_of, Board, man_at, is_man, apart, is_forward, IsValid, is_small, count_kind, count_side, MOST_TRIES, is_try, tries_from, tries}
use Rattle.krieg_board.specs.declared.men.Kind.TheVariants.{Pawn}
use Rattle.krieg_board.proofs.Facts.{Facts, facts}
use Rattle.krieg_words.proofs.PawnCaptures.{is_aimed, is_own_pawn, try_tells}
use Rattle.krieg_words.proofs.RangeSums.{sum_range_same, sum_range_add, sum_range_one}

-- the two squares that a pawn attacks
abbrev left_of : Side → ℕ → ℕ
left_of White f = f + 7
left_of Black f = f - 9

abbrev right_of : Side → ℕ → ℕ
right_of White f = f + 9
right_of Black f = f - 7

either : (t a b : ℕ) → (t ≢ a → t ≡ b) → (t == a || t == b) ≡ true
either t a b h = by_test (t == a) refl
  where
    by_test : (x : Bool) → (t == a) ≡ x → (x || t == b) ≡ true
    by_test true k = refl
    by_test false k = eq-eqb t b (h (λ e. absurd (let yes = eq-eqb t a e in cc)))

one_of_two : (side : Side) (f t : ℕ) → is_aimed side f t ≡ true → (t == left_of side f || t == right_of side f) ≡ true
one_of_two side f t h =
    let a = and_parts (apart (file_of f) (file_of t) == 1) (is_forward side f t) h in
    of_side side a.0 a.1
  where
    of_side : (side : Side) → (apart (file_of f) (file_of t) == 1) ≡ true → is_forward side f t ≡ true → (t == left_of side f || t == right_of side f) ≡ true
    of_side White p q =
        let a : apart (file_of f) (file_of t) ≡ 1 = eqb-true (apart (file_of f) (file_of t)) 1 p in
        let r : rank_of t ≡ rank_of f + 1 = eqb-true (rank_of t) (rank_of f + 1) q in
        either t (left_of White f) (right_of White f) (λ e. omega arith)
    of_side Black p q =
        let a : apart (file_of f) (file_of t) ≡ 1 = eqb-true (apart (file_of f) (file_of t)) 1 p in
        let r : rank_of f ≡ rank_of t + 1 = eqb-true (rank_of f) (rank_of t + 1) q in
        either t (left_of Black f) (right_of Black f) (λ e. omega arith)

-- the sum over the squares of a test of what they hold counts the men
board_sum : (h : Option Man → ℕ) (xs : Board) (lo : ℕ) → sum_by (λ k. h (man_at xs (k - lo))) (range_with_len lo (length xs)) ≡ sum_by h xs
board_sum h [] lo = refl
board_sum h (x ∷ xs) lo =
    let f : ℕ → ℕ = λ k. h (man_at (x ∷ xs) (k - lo)) in
    let g : ℕ → ℕ = λ k. h (man_at xs (k - (lo + 1))) in
    let e1 = sum_by-cons f lo (range_with_len (lo + 1) (length xs)) in
    let e2 = sum_range_same f g (lo + 1) (length xs) (λ k a b. (let up : k - lo ≡ suc (k - (lo + 1)) = omega arith in ap (λ j. h (man_at (x ∷ xs) j)) up)) in
    let e3 = board_sum h xs (lo + 1) in
    let e4 = sum_by-cons h x xs in
    let e5 : f lo ≡ h x = ap (λ j. h (man_at (x ∷ xs) j)) (let z : lo - lo ≡ 0 = omega arith in z) in
    e1 ∙ (omega (arith, e2, e3, e4, e5))

abbrev one : Bool → ℕ
one t = cond t 1 0

-- no try begins on a square without an own pawn
none_from : (p : Pos) (f : ℕ) (ts : List ℕ) → is_own_pawn p f ≡ false → count_by (is_try p f) ts ≡ 0
none_from p f [] none = refl
none_from p f (t ∷ ts) none = omega (arith, sum_by-cons (λ k. one (is_try p f k)) t ts, none_from p f ts none, not_try (is_try p f t) refl)
  where
    not_try : (x : Bool) → is_try p f t ≡ x → one x ≡ 0
    not_try false e = refl
    not_try true e = absurd (both_ways (is_own_pawn p f) none (try_tells p f t e).0)

pub tries_from_none : (p : Pos) (f : ℕ) → is_own_pawn p f ≡ false → tries_from p f ≡ 0
unfolding tries_from
tries_from_none p f none = none_from p f squares none

one_below : (t a b : Bool) → (t ≡ true → (a || b) ≡ true) → one t ≤ one a + one b
one_below false a b h = omega arith
one_below true true b h = omega arith
one_below true false true h = omega arith
one_below true false false h = absurd (let e = h refl in cc)

one_at_most : (t : Bool) → one t ≤ 1
one_at_most true = omega arith
one_at_most false = omega arith

-- from one square there are two tries at most, and none where no own pawn stands
from_le : (p : Pos) (f n : ℕ) → count_by (is_try p f) (range_with_len 0 n) ≤ 2 * one (is_own_pawn p f)
from_le p f n = by_pawn (is_own_pawn p f) refl
  where
    by_pawn : (t : Bool) → is_own_pawn p f ≡ t → count_by (is_try p f) (range_with_len 0 n) ≤ 2 * one t
    by_pawn true own =
        let a = sum_by-le-sum_by (λ t. one (is_try p f t)) (λ t. one (t == left_of p.side f) + one (t == right_of p.side f)) (range_with_len 0 n)
        (λ t. one_below (is_try p f t) (t == left_of p.side f) (t == right_of p.side f) (λ h. one_of_two p.side f t (try_tells p f t h).1)) in
        let b = sum_range_add (λ t. one (t == left_of p.side f)) (λ t. one (t == right_of p.side f)) 0 n in
        let c = sum_range_one (left_of p.side f) 0 n in
        let d = sum_range_one (right_of p.side f) 0 n in
        let e1 = one_at_most (nat_le 0 (left_of p.side f)) in
        let e2 = one_at_most (nat_le 0 (right_of p.side f)) in
        omega (arith, a, b, c, d, e1, e2)
    by_pawn false none = omega (arith, none_from p f (range_with_len 0 n) none)

pub tries_sum_le : (p : Pos) → Facts p → sum_by (λ f. count_by (is_try p f) (range_with_len 0 (length p.board))) (range_with_len 0 (length p.board)) ≤ MOST_TRIES
tries_sum_le p fs =
    let n = length p.board in
    let h : ℕ → ℕ = λ f. one (is_own_pawn p f) in
    let a = sum_by-le-sum_by (λ f. count_by (is_try p f) (range_with_len 0 n)) (λ f. h f + h f) (range_with_len 0 n) (λ f. omega (arith, from_le p f n)) in
    let b = sum_range_add h h 0 n in
    let c = board_sum (λ x. one (is_man p.side Pawn x)) p.board 0 in
    let d = sum_range_same h (λ k. one (is_man p.side Pawn (man_at p.board (k - 0)))) 0 n (λ k l u. (let z : k ≡ k - 0 = omega arith in ap h z)) in
    let e : count_kind p.board p.side Pawn ≤ 8 = few p.side in
    omega (arith, a, b, c, d, e)
  where
    le_from : (a b : ℕ) → nat_le a b ≡ true → a ≤ b
    le_from a b h = grind (arith, nat_tests)

    few : (side : Side) → count_kind p.board side Pawn ≤ 8
    few White = le_from (count_kind p.board White Pawn) 8 (and_parts (nat_le (count_side p.board White) 16) (nat_le (count_kind p.board White Pawn) 8) (and_parts (is_small p.board White) (is_small p.board Black) fs.small).0).1
    few Black = le_from (count_kind p.board Black Pawn) 8 (and_parts (nat_le (count_side p.board Black) 16) (nat_le (count_kind p.board Black Pawn) 8) (and_parts (is_small p.board White) (is_small p.board Black) fs.small).1).1

squares_are : (n : ℕ) → n ≡ 64 → squares ≡ range_with_len 0 n
unfolding squares
squares_are n e = ap (range_with_len 0) (sym e)

pub tries_le : (p : Pos) → IsValid p → tries p ≤ MOST_TRIES
unfolding tries tries_from
tries_le p v =
    subst (λ (xs : List ℕ). sum_by (λ f. count_by (is_try p f) xs) xs ≤ MOST_TRIES) (sym (squares_are (length p.board) v.squares)) (tries_sum_le p (facts p v))

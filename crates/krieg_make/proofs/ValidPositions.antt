-- Each made position is valid: all of them are looked at, one after another.
use Rattle.std.proofs.Common.{◌≡◌, ℕ, ◌%◌, ◌<◌, Bool, true, false, not, ◌&&◌, ◌||◌, ◌==◌, cond, length, None, refl, ◌∙◌, arith}
use Rattle.std.proofs.lemmas.Bool.{and_parts, eqb-true}
use Rattle.std.specs.List.{list_all, range_with_len}
use Rattle.krieg_make.proofs.Common.{Board, Black, White, is_between, is_clear, is_king_attacked, every_square, squares, rank_of, man_at, square_at, empty_board, IsValid, first_fault, has_kings, has_pawns_inside, is_pawn, is_small, made_board, made_position, pair_at, pairs, POSITION_COUNT}
use Rattle.krieg_board.proofs.SquareTests.{every_square_all}
use Rattle.krieg_make.proofs.Numbers.{all_within}
use Rattle.krieg_make.proofs.Walks.{walk, walked, unattacked, not_attacked}

-- no pawn stands on the first or the last rank
pawns_inside : Board → Bool
pawns_inside b = walk (λ s x y. not (is_pawn x && (rank_of s == 0 || rank_of s == 7))) 0 b b

is_sound : Board → ℕ → Bool
is_sound b file = has_kings b && (pawns_inside b && ((is_small b White && is_small b Black) && (length b == 64 && unattacked b Black (square_at file 7))))

are_sound : ℕ → Bool
are_sound i = is_sound (made_position i).board (i % 5)

all_sound : list_all are_sound (range_with_len 0 POSITION_COUNT) ≡ true
unfolding are_sound is_sound pawns_inside unattacked walk made_position made_board pair_at pairs empty_board is_between is_clear every_square squares
all_sound = refl

inside : (b : Board) → length b ≡ 64 → pawns_inside b ≡ true → has_pawns_inside b ≡ true
unfolding pawns_inside has_pawns_inside
inside b size h =
    every_square_all (λ s. not (is_pawn (man_at b s) && (rank_of s == 0 || rank_of s == 7)))
    (λ s l. walked (λ s x y. not (is_pawn x && (rank_of s == 0 || rank_of s == 7))) 0 b b h s s (omega (arith, size)) (omega arith))

-- what is left of the faults where there are none of these
no_more : {A : Type 0} (k q s a : Bool) (w x y z rest : A) → k ≡ true → q ≡ true → s ≡ true → a ≡ false →
    cond (not k) w (cond (not q) x (cond (not s) y (cond a z rest))) ≡ rest
no_more true true true false w x y z rest ek eq es ea = refl
no_more false q s a w x y z rest ek eq es ea = cc
no_more true false s a w x y z rest ek eq es ea = cc
no_more true true false a w x y z rest ek eq es ea = cc
no_more true true true true w x y z rest ek eq es ea = cc

pub made_valid : (i : ℕ) → i < POSITION_COUNT → IsValid (made_position i)
unfolding are_sound is_sound first_fault made_position
made_valid i h =
    let b = (made_position i).board in
    let t = square_at (i % 5) 7 in
    let tested : are_sound i ≡ true = all_within are_sound 0 POSITION_COUNT i (omega arith) h all_sound in
    let kings = and_parts (has_kings b) (pawns_inside b && ((is_small b White && is_small b Black) && (length b == 64 && unattacked b Black t))) tested in
    let pawns = and_parts (pawns_inside b) ((is_small b White && is_small b Black) && (length b == 64 && unattacked b Black t)) kings.1 in
    let few = and_parts (is_small b White && is_small b Black) (length b == 64 && unattacked b Black t) pawns.1 in
    let rest = and_parts (length b == 64) (unattacked b Black t) few.1 in
    let size : length b ≡ 64 = eqb-true (length b) 64 rest.0 in
    record {
      squares = size;
      no_fault = no_more (has_kings b) (has_pawns_inside b) (is_small b White && is_small b Black) (is_king_attacked b Black) _ _ _ _ None
          kings.0 (inside b size pawns.0) few.0 (not_attacked b Black t rest.1);
    }

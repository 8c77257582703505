-- What is counted and looked for on a board by its sets, where a fault is told.
use Rattle.std.proofs.Common.{◌≡◌, ℕ, ◌<◌, ◌^◌, Bool, true, false, not, ◌&&◌, ◌||◌, ◌==◌, refl, sym, ◌∙◌, ap, arith, length, bit_and, count_ones}
use Rattle.std.specs.Prelude.{Option, Some, None}
use Rattle.std.proofs.lemmas.Bool.{and_parts, eqb-true}
use Rattle.std.proofs.lemmas.Nat.{and_le_r}
use Rattle.krieg_board.proofs.Common.{Side, White, Black, Kind, Pawn, King, Man, is_same_bool, is_same_kind, is_same_side, squares, every_square, rank_of, Board, man_at, is_of, is_man, is_kind, has, count_kind, has_kings, has_pawns_inside, is_pawn}
use Rattle.krieg_board.proofs.MenLemmas.{kind_side}
use Rattle.krieg_board.proofs.OneKing.{set_empty}
use Rattle.krieg_board.proofs.Ones.{counted_set}
use Rattle.krieg_board.proofs.SameTests.{same_bool_eq, no_square}
use Rattle.krieg_board.proofs.SetLemmas.{has_and}
use Rattle.krieg_board.proofs.SquareTests.{every_square_at}

-- the men of a kind that are of a side, by the set of that kind and that of that side
pub counted_kind : (which : Kind) (b : Board) (side : Side) (kind own : ℕ) → length b ≡ 64 → own < 2 ^ 64 →
    ((k : ℕ) → k < 64 → has kind k ≡ is_kind which (man_at b k)) → ((k : ℕ) → k < 64 → has own k ≡ is_of side (man_at b k)) →
    count_ones (bit_and kind own) ≡ count_kind b side which
counted_kind which b side kind own size small ek eo =
    counted_set (is_man side which) b (bit_and kind own) (omega (arith, and_le_r kind own)) size
    (λ k h. has_and kind own k ∙ (λ i. ek k h i && eo k h i) ∙ kind_side which side (man_at b k))

end_ranks : every_square (λ k. is_same_bool (has 18374686479671623935 k) (rank_of k == 0 || rank_of k == 7)) ≡ true
unfolding every_square squares has
end_ranks = refl

pawn_of_either : (x : Option Man) → is_kind Pawn x ≡ is_pawn x
pawn_of_either None = refl
pawn_of_either (Some man) = by_side man.side (is_same_kind man.kind Pawn)
  where
    by_side : (side : Side) (t : Bool) → t ≡ ((is_same_side side White && t) || (is_same_side side Black && t))
    by_side White true = refl
    by_side White false = refl
    by_side Black true = refl
    by_side Black false = refl

-- no pawn stands on the first or the last rank, by the set of pawns
pub pawns_inside : (b : Board) (pawns : ℕ) → ((k : ℕ) → k < 64 → has pawns k ≡ is_kind Pawn (man_at b k)) →
    (bit_and pawns 18374686479671623935 == 0) ≡ has_pawns_inside b
unfolding has_pawns_inside
pawns_inside b pawns e =
    sym (not_not (bit_and pawns 18374686479671623935 == 0))
    ∙ ap not (sym (set_empty (bit_and pawns 18374686479671623935) outside (omega (arith, and_le_r pawns 18374686479671623935)) each))
    ∙ no_square outside
  where
    outside : ℕ → Bool
    outside s = is_pawn (man_at b s) && (rank_of s == 0 || rank_of s == 7)

    each : (k : ℕ) → k < 64 → has (bit_and pawns 18374686479671623935) k ≡ outside k
    each k h =
        has_and pawns 18374686479671623935 k
        ∙ (λ i. (e k h ∙ pawn_of_either (man_at b k)) i
        && same_bool_eq (has 18374686479671623935 k) (rank_of k == 0 || rank_of k == 7) (every_square_at (λ k. is_same_bool (has 18374686479671623935 k) (rank_of k == 0 || rank_of k == 7)) end_ranks k h) i)

    not_not : (t : Bool) → not (not t) ≡ t
    not_not true = refl
    not_not false = refl

-- where each side has one king, a side has one
pub one_king_each : (b : Board) → has_kings b ≡ true → (side : Side) → count_kind b side King ≡ 1
one_king_each b h White = eqb-true (count_kind b White King) 1 (and_parts (count_kind b White King == 1) (count_kind b Black King == 1) h).0
one_king_each b h Black = eqb-true (count_kind b Black King) 1 (and_parts (count_kind b White King == 1) (count_kind b Black King == 1) h).1

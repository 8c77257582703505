-- Sets that show a board make that board, and what they show after a square is written.
use Rattle.std.proofs.Common.{◌≡◌, ℕ, ◌-◌, ◌*◌, ◌%◌, ◌^◌, ◌<◌, Bool, true, false, ◌==◌, ◌⊎◌, inl, inr, refl, sym, ◌∙◌, ap, arith, cond, map, length, set, bit_and, bit_or, w64, ◌≢◌}
use Rattle.std.specs.Prelude.{Option, Some, None}
use Rattle.std.proofs.Math.ListN.{length-set}
use Rattle.std.proofs.lemmas.Bool.{eq-eqb, ne_eqb, cases_eq}
use Rattle.std.proofs.lemmas.List.{ext_get_or, get_or-map, get_or-set_same, get_or-set_other, length-map}
use Rattle.std.proofs.lemmas.Nat.Bits.{bit_at_clear_same, bit_at_clear_other, bit_at_set_same, bit_at_set_other}
use Rattle.krieg_board.proofs.Common.{Side, White, Black, Kind, Pawn, King, Man, squares, Board, man_at, is_of, has, is_kind, man_on, board_of, sets_of, AreExact, Show, Sets}
use Rattle.krieg_board.specs.declared.men.Kind.TheVariants.{Knight, Bishop, Rook, Queen}
use Rattle.krieg_board.proofs.SetLemmas.{has_bit, has_no_bit, has_same}
use Rattle.krieg_board.proofs.BoardSets.{squares_where_is}
use Rattle.krieg_board.proofs.SquareTests.{length_squares, get_or_squares}

-- the sets are numbers of 64 bits
pub record Small (i : Sets) : Type 0 where
  pub white : i.white < 2 ^ 64
  pub black : i.black < 2 ^ 64
  pub pawns : i.pawns < 2 ^ 64
  pub knights : i.knights < 2 ^ 64
  pub bishops : i.bishops < 2 ^ 64
  pub rooks : i.rooks < 2 ^ 64
  pub queens : i.queens < 2 ^ 64
  pub kings : i.kings < 2 ^ 64

abbrev kind_by : Option Man → Kind
kind_by x = cond (is_kind Pawn x) Pawn (cond (is_kind Knight x) Knight (cond (is_kind Bishop x) Bishop (cond (is_kind Rook x) Rook (cond (is_kind Queen x) Queen King))))

abbrev man_by : Option Man → Option Man
man_by x = cond (is_of White x) (Some (record { side = White; kind = kind_by x })) (cond (is_of Black x) (Some (record { side = Black; kind = kind_by x })) None)

by_both : (s : Side) (k : Kind) → man_by (Some (record { side = s; kind = k })) ≡ Some (record { side = s; kind = k })
by_both White Pawn = refl
by_both White Knight = refl
by_both White Bishop = refl
by_both White Rook = refl
by_both White Queen = refl
by_both White King = refl
by_both Black Pawn = refl
by_both Black Knight = refl
by_both Black Bishop = refl
by_both Black Rook = refl
by_both Black Queen = refl
by_both Black King = refl

by_tests : (x : Option Man) → man_by x ≡ x
by_tests None = refl
by_tests (Some m) = by_both m.side m.kind

pub man_on_shown : (i : Sets) (b : Board) → Show i b → (k : ℕ) → k < 64 → man_on i k ≡ man_at b k
man_on_shown i b s k h =
    (λ j.
    let kind = cond (s.pawns k h j) Pawn (cond (s.knights k h j) Knight (cond (s.bishops k h j) Bishop (cond (s.rooks k h j) Rook (cond (s.queens k h j) Queen King)))) in
    cond (s.white k h j) (Some (record { side = White; kind = kind })) (cond (s.black k h j) (Some (record { side = Black; kind = kind })) None))
    ∙ by_tests (man_at b k)

pub shown_board : (i : Sets) (b : Board) → Show i b → length b ≡ 64 → board_of i ≡ b
unfolding board_of
shown_board i b s e =
    ext_get_or None (map (man_on i) squares) b (length-map squares (man_on i) ∙ length_squares ∙ sym e)
    (λ k h. let l : k < 64 = omega (arith, length-map squares (man_on i), length_squares) in
    get_or-map (man_on i) squares k 0 None (omega (arith, length_squares)) ∙ ap (man_on i) (get_or_squares k 0 l) ∙ man_on_shown i b s k l)

pub shown_exact : (i : Sets) (b : Board) → Show i b → Small i → sets_of b ≡ i
unfolding sets_of
shown_exact i b s m = λ j. record {
  white = sym (squares_where_is i.white (λ k. is_of White (man_at b k)) m.white s.white) j;
  black = sym (squares_where_is i.black (λ k. is_of Black (man_at b k)) m.black s.black) j;
  pawns = sym (squares_where_is i.pawns (λ k. is_kind Pawn (man_at b k)) m.pawns s.pawns) j;
  knights = sym (squares_where_is i.knights (λ k. is_kind Knight (man_at b k)) m.knights s.knights) j;
  bishops = sym (squares_where_is i.bishops (λ k. is_kind Bishop (man_at b k)) m.bishops s.bishops) j;
  rooks = sym (squares_where_is i.rooks (λ k. is_kind Rook (man_at b k)) m.rooks s.rooks) j;
  queens = sym (squares_where_is i.queens (λ k. is_kind Queen (man_at b k)) m.queens s.queens) j;
  kings = sym (squares_where_is i.kings (λ k. is_kind King (man_at b k)) m.kings s.kings) j;
}

pub shown : (i : Sets) (b : Board) → Show i b → Small i → length b ≡ 64 → AreExact i
shown i b s m e = record { exact = ap sets_of (shown_board i b s e) ∙ shown_exact i b s m }

-- a set with one square more, and with one less
pub has_added : (n s k : ℕ) → s < 64 → k < 64 → has (bit_or n (1 * 2 ^ s % 18446744073709551616)) k ≡ cond (k == s) true (has n k)
has_added n s k hs hk = by_place (cases_eq k s)
  where
    by_place : (k ≡ s) ⊎ (k ≢ s) → has (bit_or n (1 * 2 ^ s % 18446744073709551616)) k ≡ cond (k == s) true (has n k)
    by_place (inl p) =
        ap (has (bit_or n (1 * 2 ^ s % 18446744073709551616))) p ∙ has_bit (bit_or n (1 * 2 ^ s % 18446744073709551616)) s (bit_at_set_same w64 n s hs)
        ∙ sym (ap (λ t. cond t true (has n k)) (eq-eqb k s p))
    by_place (inr p) =
        has_same (bit_or n (1 * 2 ^ s % 18446744073709551616)) n k (bit_at_set_other w64 n s hs k p) ∙ sym (ap (λ t. cond t true (has n k)) (ne_eqb k s p))

pub has_removed : (n s k : ℕ) → s < 64 → k < 64 → has (bit_and n (18446744073709551615 - 1 * 2 ^ s % 18446744073709551616)) k ≡ cond (k == s) false (has n k)
has_removed n s k hs hk = by_place (cases_eq k s)
  where
    by_place : (k ≡ s) ⊎ (k ≢ s) → has (bit_and n (18446744073709551615 - 1 * 2 ^ s % 18446744073709551616)) k ≡ cond (k == s) false (has n k)
    by_place (inl p) =
        ap (has (bit_and n (18446744073709551615 - 1 * 2 ^ s % 18446744073709551616))) p
        ∙ has_no_bit (bit_and n (18446744073709551615 - 1 * 2 ^ s % 18446744073709551616)) s (bit_at_clear_same w64 n s hs)
        ∙ sym (ap (λ t. cond t false (has n k)) (eq-eqb k s p))
    by_place (inr p) =
        has_same (bit_and n (18446744073709551615 - 1 * 2 ^ s % 18446744073709551616)) n k (bit_at_clear_other w64 n s hs k hk p)
        ∙ sym (ap (λ t. cond t false (has n k)) (ne_eqb k s p))

pub ruleset written = (has_added, has_removed)

-- a test of the board after a square is written
written_at : (q : Option Man → Bool) (b : Board) (s k : ℕ) (x : Option Man) → length b ≡ 64 → s < 64 → cond (k == s) (q x) (q (man_at b k)) ≡ q (man_at (set b s x) k)
written_at q b s k x e hs = by_place (cases_eq k s)
  where
    by_place : (k ≡ s) ⊎ (k ≢ s) → cond (k == s) (q x) (q (man_at b k)) ≡ q (man_at (set b s x) k)
    by_place (inl p) =
        ap (λ t. cond t (q x) (q (man_at b k))) (eq-eqb k s p)
        ∙ sym (ap q (ap (λ j. man_at (set b s x) j) p ∙ get_or-set_same b s x None (omega arith)))
    by_place (inr p) =
        ap (λ t. cond t (q x) (q (man_at b k))) (ne_eqb k s p)
        ∙ sym (ap q (get_or-set_other b s k x None p))

-- the board after a square is written is shown by the sets after it
pub write_one : (q : Option Man → Bool) (b : Board) (n m s : ℕ) (x : Option Man) → length b ≡ 64 → s < 64 →
    ((k : ℕ) → k < 64 → has n k ≡ q (man_at b k)) → ((k : ℕ) → k < 64 → has m k ≡ cond (k == s) (q x) (has n k)) → (k : ℕ) → k < 64 → has m k ≡ q (man_at (set b s x) k)
write_one q b n m s x e hs was is k hk = is k hk ∙ ap (cond (k == s) (q x)) (was k hk) ∙ written_at q b s k x e hs

-- and so is that after two are
pub write_two : (q : Option Man → Bool) (b : Board) (n m f t : ℕ) (x : Option Man) → length b ≡ 64 → f < 64 → t < 64 →
    ((k : ℕ) → k < 64 → has n k ≡ q (man_at b k)) → ((k : ℕ) → k < 64 → has m k ≡ cond (k == t) (q x) (cond (k == f) (q None) (has n k))) →
    (k : ℕ) → k < 64 → has m k ≡ q (man_at (set (set b f None) t x) k)
write_two q b n m f t x e hf ht was is k hk =
    is k hk ∙ ap (λ y. cond (k == t) (q x) (cond (k == f) (q None) y)) (was k hk)
    ∙ ap (cond (k == t) (q x)) (written_at q b f k None e hf)
    ∙ written_at q (set b f None) t k x (length-set b f None ∙ e) ht

pub length_board_of : (i : Sets) → length (board_of i) ≡ 64
unfolding board_of
length_board_of i = length-map squares (man_on i) ∙ length_squares

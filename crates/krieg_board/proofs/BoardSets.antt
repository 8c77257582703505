-- A board and its eight sets: each set has just the squares whose man passes its test.
use Rattle.std.proofs.Common.{◌≡◌, ℕ, zero, suc, ◌+◌, ◌-◌, ◌*◌, ◌^◌, ◌<◌, Bool, true, false, ◌&&◌, ◌||◌, ◌==◌, ◌⊎◌, inl, inr, refl, sym, ◌∙◌, ap, arith, subst, cond, bit_or, nat_lt}
use Rattle.std.specs.Prelude.{Option, Some, None, is_some}
use Rattle.std.proofs.lemmas.Bool.{lt-ltb, le-ltb, eq-eqb, ne_eqb, cases_order}
use Rattle.krieg_board.proofs.Common.{Side, White, Black, Pawn, King, Man, is_same_side, Board, man_at, is_of, has, set_below, squares_where, is_kind, board_of, sets_of, AreExact, Show, Sets}
use Rattle.krieg_board.specs.declared.men.Kind.TheVariants.{Knight, Bishop, Rook, Queen}
use Rattle.krieg_board.proofs.SetLemmas.{has_or, has_zero, same_sets}
use Rattle.std.proofs.lemmas.Nat.Bits.{bit_at_above, bit_at_cat_low, bit_at_cat_high}
use Rattle.std.specs.Int.{bit_at}

pub set_below_small : (test : ℕ → Bool) (n : ℕ) → set_below test n < 2 ^ n
unfolding set_below
set_below_small test zero = omega arith
set_below_small test (suc n) = step (test n) (set_below test n) (2 ^ n) (2 ^ suc n) (twice n) (set_below_small test n)
  where
    twice : (n : ℕ) → 2 ^ suc n ≡ 2 * 2 ^ n
    twice n = omega arith

    step : (t : Bool) (s m d : ℕ) → d ≡ 2 * m → s < m → s + cond t m 0 < d
    step true s m d e h = omega arith
    step false s m d e h = omega arith

-- one digit more in front of a number
has_digit : (t : Bool) (s n k : ℕ) → s < 2 ^ n → has (s + cond t (2 ^ n) 0) k ≡ cond (nat_lt k n) (has s k) (k == n && t)
unfolding has
has_digit t s n k h = ap (λ x. bit_at x k == 1) (front t) ∙ go (cases_order k n)
  where
    front : (t : Bool) → s + cond t (2 ^ n) 0 ≡ cond t 1 0 * 2 ^ n + s
    front true = omega arith
    front false = omega arith

    first : (t : Bool) (i : ℕ) → i ≡ 0 → (bit_at (cond t 1 0) i == 1) ≡ t
    first true i e = ap (λ i. bit_at 1 i == 1) e
    first false i e = ap (λ i. bit_at 0 i == 1) e

    later : (t : Bool) (i : ℕ) → 0 < i → (bit_at (cond t 1 0) i == 1) ≡ false
    later true i h = ap (λ x. x == 1) (bit_at_above 1 1 i (omega arith) (omega arith))
    later false i h = ap (λ x. x == 1) (bit_at_above 0 1 i (omega arith) (omega arith))

    go : (k ≡ n) ⊎ ((k < n) ⊎ (n < k)) → (bit_at (cond t 1 0 * 2 ^ n + s) k == 1) ≡ cond (nat_lt k n) (bit_at s k == 1) (k == n && t)
    go (inr (inl l)) = ap (λ x. x == 1) (bit_at_cat_low (cond t 1 0) n s k l) ∙ sym (ap (λ x. cond x (bit_at s k == 1) (k == n && t)) (lt-ltb k n l))
    go (inl e) =
        ap (λ x. x == 1) (bit_at_cat_high (cond t 1 0) n s k h (omega arith)) ∙ first t (k - n) (omega arith)
        ∙ sym ((λ i. cond (le-ltb k n (omega arith) i) (bit_at s k == 1) (k == n && t)) ∙ ap (λ x. x && t) (eq-eqb k n e))
    go (inr (inr l)) =
        ap (λ x. x == 1) (bit_at_cat_high (cond t 1 0) n s k h (omega arith)) ∙ later t (k - n) (omega arith)
        ∙ sym ((λ i. cond (le-ltb k n (omega arith) i) (bit_at s k == 1) (k == n && t)) ∙ ap (λ x. x && t) (ne_eqb k n (λ e. omega arith)))

-- a square below n belongs to the set where it passes, any other does not
pub has_set_below : (test : ℕ → Bool) (n k : ℕ) → has (set_below test n) k ≡ (nat_lt k n && test k)
unfolding set_below
has_set_below test zero k = has_zero k ∙ sym (ap (λ x. x && test k) (le-ltb k 0 (omega arith)))
has_set_below test (suc n) k =
    has_digit (test n) (set_below test n) n k (set_below_small test n)
    ∙ ap (λ x. cond (nat_lt k n) x (k == n && test n)) (has_set_below test n k)
    ∙ go (cases_order k n)
  where
    go : (k ≡ n) ⊎ ((k < n) ⊎ (n < k)) → cond (nat_lt k n) (nat_lt k n && test k) (k == n && test n) ≡ (nat_lt k (suc n) && test k)
    go (inr (inl l)) =
        (λ i. cond (lt-ltb k n l i) (lt-ltb k n l i && test k) (k == n && test n)) ∙ sym (ap (λ x. x && test k) (lt-ltb k (suc n) (omega arith)))
    go (inl e) =
        (λ i. cond (le-ltb k n (omega arith) i) (nat_lt k n && test k) (eq-eqb k n e i && test (sym e i)))
        ∙ sym (ap (λ x. x && test k) (lt-ltb k (suc n) (omega arith)))
    go (inr (inr l)) =
        (λ i. cond (le-ltb k n (omega arith) i) (nat_lt k n && test k) (ne_eqb k n (λ e. omega arith) i && test n))
        ∙ sym (ap (λ x. x && test k) (le-ltb k (suc n) (omega arith)))

pub has_squares_where : (test : ℕ → Bool) (k : ℕ) → k < 64 → has (squares_where test) k ≡ test k
unfolding squares_where
has_squares_where test k h = has_set_below test 64 k ∙ ap (λ x. x && test k) (lt-ltb k 64 h)

pub squares_where_small : (test : ℕ → Bool) → squares_where test < 2 ^ 64
unfolding squares_where
squares_where_small test = set_below_small test 64

-- a set is the set of the squares that pass, where it has just those
pub squares_where_is : (n : ℕ) (test : ℕ → Bool) → n < 2 ^ 64 → ((k : ℕ) → k < 64 → has n k ≡ test k) → n ≡ squares_where test
squares_where_is n test h e = same_sets n (squares_where test) h (squares_where_small test) (λ k l. e k l ∙ sym (has_squares_where test k l))

-- what each of the eight sets has
pub white_has : (b : Sets) → AreExact b → (k : ℕ) → k < 64 → has b.white k ≡ is_of White (man_at (board_of b) k)
unfolding sets_of
white_has b v k h = sym (ap (λ s. has s.white k) v.exact) ∙ has_squares_where (λ k. is_of White (man_at (board_of b) k)) k h

pub black_has : (b : Sets) → AreExact b → (k : ℕ) → k < 64 → has b.black k ≡ is_of Black (man_at (board_of b) k)
unfolding sets_of
black_has b v k h = sym (ap (λ s. has s.black k) v.exact) ∙ has_squares_where (λ k. is_of Black (man_at (board_of b) k)) k h

pub pawns_has : (b : Sets) → AreExact b → (k : ℕ) → k < 64 → has b.pawns k ≡ is_kind Pawn (man_at (board_of b) k)
unfolding sets_of
pawns_has b v k h = sym (ap (λ s. has s.pawns k) v.exact) ∙ has_squares_where (λ k. is_kind Pawn (man_at (board_of b) k)) k h

pub knights_has : (b : Sets) → AreExact b → (k : ℕ) → k < 64 → has b.knights k ≡ is_kind Knight (man_at (board_of b) k)
unfolding sets_of
knights_has b v k h = sym (ap (λ s. has s.knights k) v.exact) ∙ has_squares_where (λ k. is_kind Knight (man_at (board_of b) k)) k h

pub bishops_has : (b : Sets) → AreExact b → (k : ℕ) → k < 64 → has b.bishops k ≡ is_kind Bishop (man_at (board_of b) k)
unfolding sets_of
bishops_has b v k h = sym (ap (λ s. has s.bishops k) v.exact) ∙ has_squares_where (λ k. is_kind Bishop (man_at (board_of b) k)) k h

pub rooks_has : (b : Sets) → AreExact b → (k : ℕ) → k < 64 → has b.rooks k ≡ is_kind Rook (man_at (board_of b) k)
unfolding sets_of
rooks_has b v k h = sym (ap (λ s. has s.rooks k) v.exact) ∙ has_squares_where (λ k. is_kind Rook (man_at (board_of b) k)) k h

pub queens_has : (b : Sets) → AreExact b → (k : ℕ) → k < 64 → has b.queens k ≡ is_kind Queen (man_at (board_of b) k)
unfolding sets_of
queens_has b v k h = sym (ap (λ s. has s.queens k) v.exact) ∙ has_squares_where (λ k. is_kind Queen (man_at (board_of b) k)) k h

pub kings_has : (b : Sets) → AreExact b → (k : ℕ) → k < 64 → has b.kings k ≡ is_kind King (man_at (board_of b) k)
unfolding sets_of
kings_has b v k h = sym (ap (λ s. has s.kings k) v.exact) ∙ has_squares_where (λ k. is_kind King (man_at (board_of b) k)) k h

pub kings_small : (b : Sets) → AreExact b → b.kings < 2 ^ 64
unfolding sets_of
kings_small b v = subst (λ (s : Sets). s.kings < 2 ^ 64) v.exact (squares_where_small (λ k. is_kind King (man_at (board_of b) k)))

pub shows : (i : Sets) (b : Board) → AreExact i → board_of i ≡ b → Show i b
shows i b v e = subst (Show i) e (record {
  white = white_has i v;
  black = black_has i v;
  pawns = pawns_has i v;
  knights = knights_has i v;
  bishops = bishops_has i v;
  rooks = rooks_has i v;
  queens = queens_has i v;
  kings = kings_has i v;
})

some_side : (x : Option Man) → (is_of White x || is_of Black x) ≡ is_some x
some_side None = refl
some_side (Some m) = by_side m.side
  where
    by_side : (s : Side) → (is_same_side s White || is_same_side s Black) ≡ true
    by_side White = refl
    by_side Black = refl

pub occupied_has : (i : Sets) (b : Board) → Show i b → (k : ℕ) → k < 64 → has (bit_or i.white i.black) k ≡ is_some (man_at b k)
occupied_has i b s k h = has_or i.white i.black k ∙ (λ j. s.white k h j || s.black k h j) ∙ some_side (man_at b k)

-- On one square: the bits of the code from the sets of the men, and back.
use Rattle.std.proofs.Common.{◌≡◌, ℕ, zero, suc, ◌+◌, ◌-◌, ◌*◌, ◌^◌, ◌<◌, ◌≤◌, Bool, true, false, not, ◌&&◌, ◌||◌, ◌==◌, cond, refl, ap, ◌∙◌, arith, bit_and, bit_or}
use Rattle.std.specs.Prelude.{Option, Some, None}
use Rattle.std.specs.Int.RustNames.{bit_xor}
use Rattle.std.proofs.lemmas.Nat.{and_le_l}
use Rattle.krieg_pack.proofs.Common.{has, Board, man_at, is_of, is_kind, Show, Sets, Side, White, Black, Kind, Pawn, Knight, Bishop, Rook, Queen, King, Man, man_code}
use Rattle.krieg_board.proofs.SetLemmas.{has_and, has_or, has_xor, has_not, differ}

-- what is known of one square: its code, the bits of the code, and which sets of men have it
pub record Row : Type 0 where
  pub code : ℕ
  pub ones : Bool
  pub twos : Bool
  pub fours : Bool
  pub eights : Bool
  pub white : Bool
  pub black : Bool
  pub pawns : Bool
  pub knights : Bool
  pub bishops : Bool
  pub rooks : Bool
  pub queens : Bool
  pub kings : Bool

abbrev pub row : Option Man → Row
row x = record {
  code = man_code x;
  ones = has (man_code x) 0;
  twos = has (man_code x) 1;
  fours = has (man_code x) 2;
  eights = has (man_code x) 3;
  white = is_of White x;
  black = is_of Black x;
  pawns = is_kind Pawn x;
  knights = is_kind Knight x;
  bishops = is_kind Bishop x;
  rooks = is_kind Rook x;
  queens = is_kind Queen x;
  kings = is_kind King x;
}

-- the code from its bits, the bits from the sets of men, and these from the bits
abbrev pub worked_out : Row → Row
worked_out r = record {
  code = cond r.ones 1 0 + 2 * cond r.twos 1 0 + 4 * cond r.fours 1 0 + 8 * cond r.eights 1 0;
  ones = r.pawns || r.bishops || r.queens;
  twos = r.white && (r.knights || r.bishops || r.kings) || r.black && (r.pawns || r.rooks || r.queens);
  fours = r.white && (r.rooks || r.queens || r.kings) || r.black && (r.pawns || r.kings);
  eights = r.black && not r.pawns;
  white = (r.ones || r.twos || r.fours) && not (r.eights || r.ones && r.twos && r.fours);
  black = r.eights || r.ones && r.twos && r.fours;
  pawns = r.ones && not (differ r.twos r.fours) && not r.eights;
  knights = differ r.twos r.eights && not r.fours && not r.ones;
  bishops = differ r.twos r.eights && not r.fours && r.ones;
  rooks = differ r.twos r.fours && not (differ r.twos r.eights) && not r.ones;
  queens = differ r.twos r.fours && not (differ r.twos r.eights) && r.ones;
  kings = differ r.twos r.eights && r.fours && not r.ones;
}

by_kind : (side : Side) (kind : Kind) → worked_out (row (Some (record { side = side; kind = kind }))) ≡ row (Some (record { side = side; kind = kind }))
unfolding has
by_kind White Pawn = refl
by_kind White Knight = refl
by_kind White Bishop = refl
by_kind White Rook = refl
by_kind White Queen = refl
by_kind White King = refl
by_kind Black Pawn = refl
by_kind Black Knight = refl
by_kind Black Bishop = refl
by_kind Black Rook = refl
by_kind Black Queen = refl
by_kind Black King = refl

-- on each square this gives what is there
pub same_row : (x : Option Man) → worked_out (row x) ≡ row x
unfolding has
same_row None = refl
same_row (Some m) = by_kind m.side m.kind

pub code_from_bits : (x : Option Man) → cond (has (man_code x) 0) 1 0 + 2 * cond (has (man_code x) 1) 1 0 + 4 * cond (has (man_code x) 2) 1 0 + 8 * cond (has (man_code x) 3) 1 0 ≡ man_code x
code_from_bits x = ap (λ (r : Row). r.code) (same_row x)

pub bit_le : (t : Bool) → cond t 1 0 ≤ 1
bit_le true = omega arith
bit_le false = omega arith

pub code_below : (x : Option Man) → man_code x < 16
code_below x =
    omega (arith, code_from_bits x, bit_le (has (man_code x) 0), bit_le (has (man_code x) 1), bit_le (has (man_code x) 2), bit_le (has (man_code x) 3))

-- a number below 2 by its test
pub by_test : (x : ℕ) → x < 2 → x ≡ cond (x == 1) 1 0
by_test zero h = refl
by_test (suc zero) h = refl
by_test (suc (suc x)) h = absurd (omega arith)

-- what belongs to an operation on two sets, by what belongs to each
pub and_is : (a b k : ℕ) (x y : Bool) → has a k ≡ x → has b k ≡ y → has (bit_and a b) k ≡ (x && y)
and_is a b k x y e f = has_and a b k ∙ (λ i. e i && f i)

pub or_is : (a b k : ℕ) (x y : Bool) → has a k ≡ x → has b k ≡ y → has (bit_or a b) k ≡ (x || y)
or_is a b k x y e f = has_or a b k ∙ (λ i. e i || f i)

pub xor_is : (a b k : ℕ) (x y : Bool) → has a k ≡ x → has b k ≡ y → has (bit_xor a b) k ≡ differ x y
xor_is a b k x y e f = has_xor a b k ∙ (λ i. differ (e i) (f i))

pub without_is : (a b k : ℕ) (x y : Bool) → b < 2 ^ 64 → k < 64 → has a k ≡ x → has b k ≡ y → has (bit_and a (18446744073709551615 - b)) k ≡ (x && not y)
without_is a b k x y small h e f = and_is a (18446744073709551615 - b) k x (not y) e (has_not b k small h ∙ ap not f)

-- what belongs to one set or to another, as a third says
pub either_is : (here first second k : ℕ) → here < 2 ^ 64 → k < 64 →
    has (bit_or (bit_and first here) (bit_and second (18446744073709551615 - here))) k ≡ cond (has here k) (has first k) (has second k)
either_is here first second k small h =
    or_is _ _ k _ _ (and_is first here k _ _ refl refl) (without_is second here k _ _ small h refl refl) ∙ chosen (has here k) (has first k) (has second k)
  where
    chosen : (t x y : Bool) → (x && t || y && not t) ≡ cond t x y
    chosen true true y = refl
    chosen true false true = refl
    chosen true false false = refl
    chosen false true true = refl
    chosen false true false = refl
    chosen false false true = refl
    chosen false false false = refl

-- an intersection is a number of 64 bits
pub and_small : (a b : ℕ) → a < 2 ^ 64 → bit_and a b < 2 ^ 64
and_small a b h = omega (arith, and_le_l a b)

-- where sets of men show a board, their unions are the bits of its codes
module _ (i : Sets) (b : Board) (s : Show i b) (k : ℕ) (h : k < 64) where
  pub ones_shown : has (bit_or (bit_or i.pawns i.bishops) i.queens) k ≡ has (man_code (man_at b k)) 0
  ones_shown = simp has_or (λ j. s.pawns k h j || s.bishops k h j || s.queens k h j) ∙ ap (λ (r : Row). r.ones) (same_row (man_at b k))

  pub twos_shown : has (bit_or (bit_and i.white (bit_or (bit_or i.knights i.bishops) i.kings)) (bit_and i.black (bit_or (bit_or i.pawns i.rooks) i.queens))) k
      ≡ has (man_code (man_at b k)) 1
  twos_shown =
      simp (has_and, has_or) (λ j.
      s.white k h j && (s.knights k h j || s.bishops k h j || s.kings k h j) || s.black k h j && (s.pawns k h j || s.rooks k h j || s.queens k h j))
      ∙ ap (λ (r : Row). r.twos) (same_row (man_at b k))

  pub fours_shown : has (bit_or (bit_and i.white (bit_or (bit_or i.rooks i.queens) i.kings)) (bit_and i.black (bit_or i.pawns i.kings))) k ≡ has (man_code (man_at b k)) 2
  fours_shown =
      simp (has_and, has_or) (λ j. s.white k h j && (s.rooks k h j || s.queens k h j || s.kings k h j) || s.black k h j && (s.pawns k h j || s.kings k h j))
      ∙ ap (λ (r : Row). r.fours) (same_row (man_at b k))

  pub eights_shown : i.pawns < 2 ^ 64 → has (bit_and i.black (18446744073709551615 - i.pawns)) k ≡ has (man_code (man_at b k)) 3
  eights_shown m = without_is i.black i.pawns k _ _ m h (s.black k h) (s.pawns k h) ∙ ap (λ (r : Row). r.eights) (same_row (man_at b k))

-- A board by eight sets of squares: whose men stand where, and which kinds.
use Rattle.std.specs.Prelude.{ℕ, Bool, Option, Some, None, ◌≡◌, ◌<◌, false, map, replicate, if◌then◌else◌}
use Rattle.krieg_board.specs.Men.{is_same_kind}
use Rattle.krieg_board.specs.Squares.{squares}
use Rattle.krieg_board.specs.Board.{Board, man_at, is_of}
use Rattle.krieg_board.specs.declared.men.Side.TheVariants.{White, Black}
use Rattle.krieg_board.specs.declared.men.Kind.{Kind}
use Rattle.krieg_board.specs.declared.men.Kind.TheVariants.{Pawn, Knight, Bishop, Rook, Queen, King}
use Rattle.krieg_board.specs.declared.men.Man.{Man}
use Rattle.krieg_board.specs.Sets.{has, squares_where}
use Rattle.krieg_board.specs.declared.bits.Sets.{Sets}

-- a man of that kind, of either side
abbrev pub is_kind : Kind → Option Man → Bool
is_kind which None = false
is_kind which (Some m) = is_same_kind m.kind which

-- the kind that stands on the square
abbrev pub kind_on : Sets → ℕ → Kind
kind_on b k =
    if has b.pawns k then Pawn
    else if has b.knights k then Knight
    else if has b.bishops k then Bishop
    else if has b.rooks k then Rook
    else if has b.queens k then Queen
    else King

-- what stands on the square
abbrev pub man_on : Sets → ℕ → Option Man
man_on b k =
    if has b.white k then Some (record { side = White; kind = kind_on b k })
    else if has b.black k then Some (record { side = Black; kind = kind_on b k })
    else None

-- the board of the sets
unfoldable pub board_of : Sets → Board
board_of b = map (man_on b) squares

-- the sets of a board
unfoldable pub sets_of : Board → Sets
sets_of b = record {
  white = squares_where (λ k. is_of White (man_at b k));
  black = squares_where (λ k. is_of Black (man_at b k));
  pawns = squares_where (λ k. is_kind Pawn (man_at b k));
  knights = squares_where (λ k. is_kind Knight (man_at b k));
  bishops = squares_where (λ k. is_kind Bishop (man_at b k));
  rooks = squares_where (λ k. is_kind Rook (man_at b k));
  queens = squares_where (λ k. is_kind Queen (man_at b k));
  kings = squares_where (λ k. is_kind King (man_at b k));
}

-- the sets are those of their board: at most one man stands on a square
pub record AreExact (b : Sets) : Type 0 where
  pub exact : sets_of (board_of b) ≡ b

-- each set has exactly the squares whose man it names
pub record Show (s : Sets) (b : Board) : Type 0 where
  pub white : (k : ℕ) → k < 64 → has s.white k ≡ is_of White (man_at b k)
  pub black : (k : ℕ) → k < 64 → has s.black k ≡ is_of Black (man_at b k)
  pub pawns : (k : ℕ) → k < 64 → has s.pawns k ≡ is_kind Pawn (man_at b k)
  pub knights : (k : ℕ) → k < 64 → has s.knights k ≡ is_kind Knight (man_at b k)
  pub bishops : (k : ℕ) → k < 64 → has s.bishops k ≡ is_kind Bishop (man_at b k)
  pub rooks : (k : ℕ) → k < 64 → has s.rooks k ≡ is_kind Rook (man_at b k)
  pub queens : (k : ℕ) → k < 64 → has s.queens k ≡ is_kind Queen (man_at b k)
  pub kings : (k : ℕ) → k < 64 → has s.kings k ≡ is_kind King (man_at b k)

-- a board without men
unfoldable pub empty_board : Board
empty_board = replicate 64 None

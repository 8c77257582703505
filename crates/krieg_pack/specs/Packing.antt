-- A position in four sets of squares and three bytes: bit i of the code of each square, as a set, for the bits 0 to 3.
use Rattle.std.specs.Prelude.{ℕ, ◌≡◌, ◌≤◌, ◌+◌, ◌*◌, List, [], ◌∷◌, map, if◌then◌else◌}
use Rattle.krieg_board.specs.Men.{bits_of}
use Rattle.krieg_board.specs.Squares.{squares}
use Rattle.krieg_board.specs.Board.{Board, man_at}
use Rattle.krieg_board.specs.Sets.{has, squares_where}
use Rattle.krieg_board.specs.Pos.{Pos}
use Rattle.krieg_board.specs.Validity.{IsValid}
use Rattle.krieg_pack.specs.Codes.{man_code, mark_code, side_code}
use Rattle.krieg_pack.specs.Decoding.{man_of, mark_of, side_of, rights_of}
use Rattle.krieg_pack.specs.declared.packed.Packed.TheInside.{Inside}

-- the squares whose code has bit i
unfoldable pub plane : ℕ → Board → ℕ
plane i b = squares_where (λ s. has (man_code (man_at b s)) i)

-- the fields that stand for a position
unfoldable pub packed : Pos → Inside
packed p = record {
  ones = plane 0 p.board;
  twos = plane 1 p.board;
  fours = plane 2 p.board;
  eights = plane 3 p.board;
  rights = bits_of p.rights;
  mark = mark_code p.mark;
  side = side_code p.side;
}

-- the code of a square, by the sets that it belongs to
abbrev pub code_at : Inside → ℕ → ℕ
code_at k s = (if has k.ones s then 1 else 0) + 2 * (if has k.twos s then 1 else 0) + 4 * (if has k.fours s then 1 else 0) + 8 * (if has k.eights s then 1 else 0)

-- what describes a position besides its board: the rights, the mark and the side to move
abbrev pub state : Pos → List ℕ
state p = bits_of p.rights ∷ mark_code p.mark ∷ side_code p.side ∷ []

-- the position that the fields stand for
unfoldable pub unpacked : Inside → Pos
unpacked k = record {
  board = map (λ s. man_of (code_at k s)) squares;
  side = side_of k.side;
  rights = rights_of k.rights;
  mark = mark_of k.mark;
}

-- the fields stand for a valid position, and no other fields stand for it
pub record IsPacked (k : Inside) : Type 0 where
  pub valid : IsValid (unpacked k)
  pub mark : k.mark ≤ 64
  pub exact : packed (unpacked k) ≡ k

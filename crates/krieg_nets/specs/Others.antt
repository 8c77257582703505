-- The men of one side by three sets of squares, with the king of the other.
use Rattle.std.specs.Prelude.{ℕ, if◌then◌else◌, bit_and, bit_or, bit_xor}
use Rattle.krieg_board.specs.Board.{Board}
use Rattle.krieg_board.specs.Boards.{board_of}
use Rattle.krieg_board.specs.declared.bits.Sets.{Sets}
use Rattle.krieg_board.specs.declared.men.Side.{Side}
use Rattle.krieg_board.specs.declared.men.Side.TheVariants.{White, Black}
use Rattle.krieg_nets.specs.declared.others.Others.{Others}

-- the squares of the others
abbrev pub all_of : Others → ℕ
all_of o = bit_or (bit_or o.ones o.twos) o.fours

-- the squares of pawns
abbrev pub pawns_of : Others → ℕ
pawns_of o = bit_xor (bit_xor o.ones (bit_and o.ones o.twos)) (bit_and o.ones o.fours)

-- the men with the king, of whom it is told where he stands
abbrev pub sets_with : Others → ℕ → Sets
sets_with o king = record {
  white = if o.black then all_of o else king;
  black = if o.black then king else all_of o;
  pawns = pawns_of o;
  knights = bit_xor (bit_xor o.twos (bit_and o.ones o.twos)) (bit_and o.twos o.fours);
  bishops = bit_and o.ones o.twos;
  rooks = bit_xor (bit_xor o.fours (bit_and o.ones o.fours)) (bit_and o.twos o.fours);
  queens = bit_and o.ones o.fours;
  kings = bit_or (bit_and o.twos o.fours) king;
}

-- the side of that king
abbrev pub lone_of : Others → Side
lone_of o = if o.black then Black else White

-- the men without him on a board
unfoldable pub men_of : Others → Board
men_of o = board_of (sets_with o 0)

-- The numbers that describe a position: a code for each square, and one each for the rights, the mark and the turn.
use Rattle.std.specs.Prelude.{ℕ, ◌+◌, ◌*◌, List, [], ◌∷◌, ◌++◌, Option, Some, None, map}
use Rattle.krieg_board.specs.Men.{bits_of}
use Rattle.krieg_board.specs.Pos.{Pos}
use Rattle.krieg_board.specs.declared.men.Side.{Side}
use Rattle.krieg_board.specs.declared.men.Side.TheVariants.{White, Black}
use Rattle.krieg_board.specs.declared.men.Kind.{Kind}
use Rattle.krieg_board.specs.declared.men.Kind.TheVariants.{Pawn, Knight, Bishop, Rook, Queen, King}
use Rattle.krieg_board.specs.declared.men.Man.{Man}

-- 1 to 6
abbrev pub kind_code : Kind → ℕ
kind_code Pawn = 1
kind_code Knight = 2
kind_code Bishop = 3
kind_code Rook = 4
kind_code Queen = 5
kind_code King = 6

-- 0 where White is to move, 1 where Black is
abbrev pub side_code : Side → ℕ
side_code White = 0
side_code Black = 1

-- 0 for an empty square, 1 to 6 for a white man by its kind, 7 to 12 for a black one
abbrev pub man_code : Option Man → ℕ
man_code None = 0
man_code (Some m) = 6 * side_code m.side + kind_code m.kind

-- 0 without a mark, else one more than its square
abbrev pub mark_code : Option ℕ → ℕ
mark_code None = 0
mark_code (Some s) = s + 1

-- the codes of the squares from a1 to h8, then the rights as bits, the mark and the side to move
unfoldable pub numbers : Pos → List ℕ
numbers p = map man_code p.board ++ (bits_of p.rights ∷ mark_code p.mark ∷ side_code p.side ∷ [])

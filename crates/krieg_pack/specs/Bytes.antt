-- The 35 bytes of a packed position.
use Rattle.std.specs.Prelude.{ℕ, ◌+◌, ◌*◌, List, [], ◌∷◌, ◌++◌, map}
use Rattle.krieg_board.specs.Men.{bits_of}
use Rattle.krieg_board.specs.Pos.{Pos}
use Rattle.krieg_pack.specs.Codes.{man_code, mark_code, side_code}

-- each two codes in one byte, the first as its higher half; a last code with no partner is left out
abbrev pub paired : List ℕ → List ℕ
paired [] = []
paired (a ∷ []) = []
paired (a ∷ b ∷ codes) = (16 * a + b) ∷ paired codes

-- 32 bytes for the squares from a1 to h8, then one each for the rights, the mark and the side to move
unfoldable pub bytes_of : Pos → List ℕ
bytes_of p = paired (map man_code p.board) ++ (bits_of p.rights ∷ mark_code p.mark ∷ side_code p.side ∷ [])

-- The written lines of listed positions.
use Rattle.std.specs.Prelude.{ℕ, List, [], ◌∷◌, ◌++◌, codes, map, length}
use Rattle.krieg_board.specs.Pos.{Pos}
use Rattle.krieg_board.specs.declared.men.Side.{Side}
use Rattle.krieg_text.specs.Decimals.{number_text}
use Rattle.krieg_fen.specs.FenText.{position_text}
use Rattle.krieg_fen.specs.Forms.{side_line}
use Rattle.krieg_text.specs.Writing.{Pieces, alone}

-- whose text it is, and how many positions are listed
abbrev pub head_lines : Side → ℕ → List Pieces
head_lines who n = alone (side_line who) ∷ (codes "list " ∷ number_text n ∷ []) ∷ []

-- a position
abbrev pub position_line : Pos → Pieces
position_line p = alone (position_text p)

-- the head, and a line for each position
abbrev pub listing_lines : Side → List Pos → List Pieces
listing_lines who ps = head_lines who (length ps) ++ map position_line ps

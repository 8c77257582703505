-- The lines of a text that stands in pieces, and where one stands behind the next line.
use Rattle.std.specs.Prelude.{◌<◌, ℕ, ◌+◌, List, [], ◌∷◌, ◌++◌, length, take, drop, Vec}
use Rattle.std.specs.declared.alloc.Global.{Global}
use Rattle.krieg_text.specs.Lines.{lines}
use Rattle.krieg_text.specs.Reading.{Place, place}

-- the lines of pieces, of which the last one stands first
abbrev pub lines_back : List (Vec ℕ Global) → List (List ℕ)
lines_back [] = []
lines_back (piece ∷ pieces) = lines_back pieces ++ lines piece.items

-- each piece has some byte
abbrev pub HaveBytes : List (Vec ℕ Global) → Type 0
HaveBytes [] = Unit {0}
HaveBytes (piece ∷ pieces) = (0 < length piece.items) × HaveBytes pieces

-- behind the next line, if there is one
abbrev pub behind_line : Place → Place
behind_line p = place (p.number + length (take 1 p.left)) (drop 1 p.left)

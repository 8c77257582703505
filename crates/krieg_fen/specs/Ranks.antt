-- The first field of a position: eight ranks, joined by `/`. Digit `1` is byte 49 and `8` is 56; `/` is byte 47.
use Rattle.std.specs.Prelude.{◌≡◌, ℕ, zero, suc, ◌+◌, ◌-◌, ◌*◌, ◌<◌, ◌==◌, ◌&&◌, List, [], ◌∷◌, ◌++◌, length, Option, Some, None, nat_le, is_some, if◌then◌else◌, replicate, take, drop}
use Rattle.krieg_board.specs.Board.{Board}
use Rattle.krieg_board.specs.declared.men.Man.{Man}
use Rattle.krieg_text.specs.Pieces.{pieces}
use Rattle.krieg_fen.specs.Letters.{man_of}

-- what stands on squares that follow each other on a rank, from the a-file on
abbrev pub Row : Type 0
Row = List (Option Man)

-- what one byte of a rank stands for: a digit for that many empty squares, a letter for a man
abbrev pub squares_at : ℕ → Option Row
squares_at b =
    if nat_le 49 b && nat_le b 56 then Some (replicate (b - 48) None)
    else (if is_some (man_of b) then Some (man_of b ∷ []) else None)

-- the squares before and those after, where both are there
abbrev pub onto_row : Option Row → Option Row → Option Row
onto_row (Some front) (Some rest) = Some (front ++ rest)
onto_row _ _ = None

-- the squares of a rank, of any number; digits may follow each other
abbrev pub row_of : List ℕ → Option Row
row_of [] = Some []
row_of (b ∷ bs) = onto_row (squares_at b) (row_of bs)

-- a rank has eight squares
abbrev pub eight : Option Row → Option Row
eight None = None
eight (Some row) = if length row == 8 then Some row else None

-- the squares of n ranks, of which the highest is written first
abbrev pub ranks_of : ℕ → List (List ℕ) → Option Row
ranks_of zero [] = Some []
ranks_of zero (r ∷ rs) = None
ranks_of (suc n) [] = None
ranks_of (suc n) (r ∷ rs) = onto_row (ranks_of n rs) (eight (row_of r))

-- the 64 squares that the field spells
abbrev pub board_of : List ℕ → Option Row
board_of field = ranks_of 8 (pieces 47 field)

-- the squares of a byte come after those that are there
abbrev pub AddsSquares : Option Row → Row → Row → Type 0
AddsSquares None old new = ⊥
AddsSquares (Some more) old new = new ≡ old ++ more

-- a byte that stands for nothing, or for more squares than there is room for
abbrev pub FailsAbove : ℕ → Option Row → Type 0
FailsAbove room None = Unit {0}
FailsAbove room (Some more) = room < length more

-- a board of as many squares, of which only those of one rank may hold other men
pub record KeepsOthers (old new : Board) (rank : ℕ) : Type 0 where
  pub size : length new ≡ length old
  pub below : take (8 * rank) new ≡ take (8 * rank) old
  pub above : drop (8 * rank + 8) new ≡ drop (8 * rank + 8) old

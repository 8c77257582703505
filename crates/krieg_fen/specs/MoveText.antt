-- The texts of squares and moves. Letter `a` is byte 97 and `h` is 104, digit `1` is 49 and `8` is 56.
use Rattle.std.specs.Prelude.{ℕ, ◌+◌, ◌-◌, ◌<◌, ◌==◌, ◌&&◌, List, [], ◌∷◌, ◌++◌, Option, Some, None, nat_le, if◌then◌else◌}
use Rattle.krieg_board.specs.Squares.{file_of, rank_of, square_at}
use Rattle.krieg_board.specs.declared.men.Move.{Move}
use Rattle.krieg_board.specs.declared.men.Promo.{Promo}
use Rattle.krieg_board.specs.declared.men.Promo.TheVariants.{Plain, Queen, Rook, Bishop, Knight}

-- the letter of the file and the digit of the rank
abbrev pub square_text : ℕ → List ℕ
square_text s = (97 + file_of s) ∷ (49 + rank_of s) ∷ []

-- nothing for a plain move, else `q` 113, `r` 114, `b` 98 or `n` 110
abbrev pub promo_text : Promo → List ℕ
promo_text Plain = []
promo_text Queen = 113 ∷ []
promo_text Rook = 114 ∷ []
promo_text Bishop = 98 ∷ []
promo_text Knight = 110 ∷ []

-- the from-square, the to-square and the promotion
unfoldable pub move_text : Move → List ℕ
move_text m = square_text m.from ++ (square_text m.to ++ promo_text m.promo)

-- both squares are squares of the board
abbrev pub IsOnBoard : Move → Type 0
IsOnBoard m = (m.from < 64) × (m.to < 64)

-- the square that a letter and a digit name
abbrev pub square_of : ℕ → ℕ → Option ℕ
square_of file rank =
    if (nat_le 97 file && nat_le file 104) && (nat_le 49 rank && nat_le rank 56) then Some (square_at (file - 97) (rank - 49)) else None

-- the promotion that a letter names
abbrev pub promo_of : ℕ → Option Promo
promo_of b = if b == 113 then Some Queen else (if b == 114 then Some Rook else (if b == 98 then Some Bishop else (if b == 110 then Some Knight else None)))

-- a move of these parts, where none is missing
abbrev pub move_with : Option ℕ → Option ℕ → Option Promo → Option Move
move_with (Some from) (Some to) (Some promo) = Some (record { from = from; to = to; promo = promo })
move_with _ _ _ = None

-- the move that a text of four or five bytes spells
abbrev pub move_of : List ℕ → Option Move
move_of (a ∷ b ∷ c ∷ d ∷ []) = move_with (square_of a b) (square_of c d) (Some Plain)
move_of (a ∷ b ∷ c ∷ d ∷ e ∷ []) = move_with (square_of a b) (square_of c d) (promo_of e)
move_of _ = None

-- the square that a text of two bytes names
abbrev pub square_named : List ℕ → Option ℕ
square_named (a ∷ b ∷ []) = square_of a b
square_named _ = None

-- The order of moves.
use Rattle.std.specs.Prelude.{ℕ, Bool, List, [], ◌∷◌}
use Rattle.std.specs.Ordering.{nat_cmp, on, is_lt}
use Rattle.std.specs.Cmp.Lexicographic.{slice_cmp}
use Rattle.std.specs.declared.cmp.Ordering.{Ordering}
use Rattle.krieg_board.specs.declared.men.Promo.{Promo}
use Rattle.krieg_board.specs.declared.men.Promo.TheVariants.{Plain, Queen, Rook, Bishop, Knight}
use Rattle.krieg_board.specs.declared.men.Move.{Move}

-- the place of a promotion among those of one pair of squares
abbrev pub promo_place : Promo → ℕ
promo_place Plain = 0
promo_place Queen = 1
promo_place Rook = 2
promo_place Bishop = 3
promo_place Knight = 4

-- what moves are compared by, one number after another: the from-square, the to-square, the promotion
abbrev pub move_numbers : Move → List ℕ
move_numbers m = m.from ∷ m.to ∷ promo_place m.promo ∷ []

-- the order of moves: by the first of these numbers that differs
abbrev pub move_cmp : Move → Move → Ordering
move_cmp = on move_numbers (slice_cmp nat_cmp)

-- the one stands before the other
abbrev pub move_lt : Move → Move → Bool
move_lt m n = is_lt (move_cmp m n)

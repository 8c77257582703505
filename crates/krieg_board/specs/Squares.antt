-- Squares by number, file and rank: a1 is 0, b1 is 1, h1 is 7, a2 is 8, h8 is 63. Files and ranks are numbered from 0.
use Rattle.std.specs.Prelude.{ℕ, zero, suc, Bool, List, [], ◌++◌, ◌+◌, ◌*◌, ◌/◌, ◌%◌}
use Rattle.std.specs.List.{list_any, list_all, range_with_len}
use Rattle.krieg_board.specs.declared.men.Side.{Side}
use Rattle.krieg_board.specs.declared.men.Side.TheVariants.{White, Black}

-- the file of a square, where 0 is the a-file
abbrev pub file_of : ℕ → ℕ
file_of s = s % 8

-- the rank of a square, where 0 is the first
abbrev pub rank_of : ℕ → ℕ
rank_of s = s / 8

-- the square on that file and rank
abbrev pub square_at : ℕ → ℕ → ℕ
square_at file rank = 8 * rank + file

-- the rank on which a side's king and rooks begin
abbrev pub home_rank : Side → ℕ
home_rank White = 0
home_rank Black = 7

-- the rank on which a side's pawns begin
abbrev pub pawn_rank : Side → ℕ
pawn_rank White = 1
pawn_rank Black = 6

-- the rank that a side's pawn crosses in a two-square advance
abbrev pub crossed_rank : Side → ℕ
crossed_rank White = 2
crossed_rank Black = 5

-- the rank that a side's pawn reaches by a two-square advance
abbrev pub landing_rank : Side → ℕ
landing_rank White = 3
landing_rank Black = 4

-- the rank on which a side's pawn is promoted
abbrev pub last_rank : Side → ℕ
last_rank White = 7
last_rank Black = 0

-- the 64 squares, a1 first
unfoldable pub squares : List ℕ
squares = range_with_len 0 64

-- some square passes the test
unfoldable pub some_square : (ℕ → Bool) → Bool
some_square test = list_any test squares

-- every square passes the test
unfoldable pub every_square : (ℕ → Bool) → Bool
every_square test = list_all test squares

-- the lists of 0 to n - 1, one after another
abbrev pub gathered : {A : Type 0} → (ℕ → List A) → ℕ → List A
gathered list_of zero = []
gathered list_of (suc n) = gathered list_of n ++ list_of n

-- The squares that are called by their names.
use Rattle.std.specs.Prelude.{ℕ}
use Rattle.krieg_board.specs.Squares.{square_at}

-- White's king stands there in made positions
abbrev pub c1 : ℕ
c1 = square_at 2 0

-- and one of his rooks
abbrev pub g1 : ℕ
g1 = square_at 6 0

-- a knight goes there in made sessions
abbrev pub f3 : ℕ
f3 = square_at 5 2

-- and another one there
abbrev pub f6 : ℕ
f6 = square_at 5 5

-- White's other rook stands there
abbrev pub h7 : ℕ
h7 = square_at 7 6

-- his rook mates from there
abbrev pub g8 : ℕ
g8 = square_at 6 7

-- The two diagonals through a square, and which of them is the longer.
use Rattle.std.specs.Prelude.{ℕ, Bool, ◌+◌, ◌-◌, ◌==◌, nat_lt, if◌then◌else◌}
use Rattle.krieg_board.specs.Squares.{file_of, rank_of}
use Rattle.krieg_board.specs.Attacks.{apart}
use Rattle.krieg_rays.specs.Rays.{is_on_rising, is_on_falling}

-- both squares are on one diagonal that rises from the a-file to the h-file
abbrev pub is_rising : ℕ → ℕ → Bool
is_rising k s = file_of s + rank_of k == file_of k + rank_of s

-- how many squares the rising diagonal through k has
abbrev pub rising_length : ℕ → ℕ
rising_length k = 8 - apart (file_of k) (rank_of k)

-- how many squares the falling diagonal through k has
abbrev pub falling_length : ℕ → ℕ
falling_length k = 8 - apart (file_of k + rank_of k) 7

-- of the two diagonals through k, the rising one is the longer
abbrev pub is_rising_longer : ℕ → Bool
is_rising_longer k = nat_lt (falling_length k) (rising_length k)

-- s is another square on the longer diagonal through k
unfoldable pub is_on_long : ℕ → ℕ → Bool
is_on_long k s = if is_rising_longer k then is_on_rising k s else is_on_falling k s

-- s is another square on the shorter diagonal through k
unfoldable pub is_on_short : ℕ → ℕ → Bool
is_on_short k s = if is_rising_longer k then is_on_falling k s else is_on_rising k s

-- of the two diagonals through k, the one that goes through s too is the longer
abbrev pub is_long_diagonal : ℕ → ℕ → Bool
is_long_diagonal k s = if is_rising k s then nat_lt (falling_length k) (rising_length k) else nat_lt (rising_length k) (falling_length k)

-- How many ways pawns have to go: each direction is counted for all of them at once.
use Rattle.std.specs.Prelude.{ℕ, zero, suc, Bool, ◌+◌, ◌-◌, ◌&&◌, ◌||◌, ◌==◌, nat_lt, if◌then◌else◌}
use Rattle.krieg_board.specs.Squares.{file_of, rank_of, pawn_rank}
use Rattle.krieg_board.specs.Sets.{has}
use Rattle.krieg_board.specs.declared.men.Side.{Side}
use Rattle.krieg_board.specs.declared.men.Side.TheVariants.{White, Black}

-- the next square as a side's pawns go; 64 or more, where there is none
abbrev pub ahead : Side → ℕ → ℕ
ahead White k = k + 8
ahead Black k = if nat_lt k 8 then 64 else k - 8

-- the square behind that one, from the rank where pawns begin; else 64
abbrev pub two_ahead : Side → ℕ → ℕ
two_ahead side k = if rank_of k == pawn_rank side then ahead side (ahead side k) else 64

-- where a side's pawn captures on the file towards the a-file; 64 or more, where there is no such square
abbrev pub ahead_west : Side → ℕ → ℕ
ahead_west White k = if file_of k == 0 then 64 else k + 7
ahead_west Black k = if file_of k == 0 || nat_lt k 8 then 64 else k - 9

-- where it captures on the file towards the h-file
abbrev pub ahead_east : Side → ℕ → ℕ
ahead_east White k = if file_of k == 7 then 64 else k + 9
ahead_east Black k = if file_of k == 7 || nat_lt k 8 then 64 else k - 7

abbrev pub one_if : Bool → ℕ
one_if here = if here then 1 else 0

-- the numbers of 0 to n - 1 together
abbrev pub total : (ℕ → ℕ) → ℕ → ℕ
total of zero = 0
total of (suc n) = total of n + of n

-- how many ways a side's pawn on k has: one or two squares ahead to one of the squares `steps`, the two over one that is empty, and to one of
-- the squares `captures` on either side
abbrev pub ways_from : Side → ℕ → ℕ → ℕ → ℕ → ℕ
ways_from side empty steps captures k =
    one_if (has steps (ahead side k)) + one_if (has empty (ahead side k) && has steps (two_ahead side k))
    + one_if (has captures (ahead_west side k)) + one_if (has captures (ahead_east side k))

-- how many all pawns of a set have
unfoldable pub ways : Side → ℕ → ℕ → ℕ → ℕ → ℕ
ways side pawns empty steps captures = total (λ k. if has pawns k then ways_from side empty steps captures k else 0) 64

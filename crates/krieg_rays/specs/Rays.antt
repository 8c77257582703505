-- Lines, what is seen along a line, and where men go on an empty board.
use Rattle.std.specs.Prelude.{ℕ, Bool, false, Option, Some, None, ◌==◌, ◌&&◌, ◌||◌, ◌+◌, not, nat_lt}
use Rattle.krieg_board.specs.declared.men.Side.{Side}
use Rattle.krieg_board.specs.declared.men.Kind.{Kind}
use Rattle.krieg_board.specs.declared.men.Man.{Man}
use Rattle.krieg_board.specs.Squares.{every_square, file_of, rank_of, pawn_rank, landing_rank}
use Rattle.krieg_board.specs.Sets.{has}
use Rattle.krieg_board.specs.Attacks.{is_inside, is_between, can_reach, slides, is_forward}

-- k is another square on the file of s
unfoldable pub is_on_file : ℕ → ℕ → Bool
is_on_file s k = not (s == k) && file_of s == file_of k

-- k is another square on the rank of s
unfoldable pub is_on_rank : ℕ → ℕ → Bool
is_on_rank s k = not (s == k) && rank_of s == rank_of k

-- k is another square on the diagonal through s that rises from the a-file to the h-file
unfoldable pub is_on_rising : ℕ → ℕ → Bool
is_on_rising s k = not (s == k) && file_of s + rank_of k == file_of k + rank_of s

-- k is another square on the diagonal through s that falls from the a-file to the h-file
unfoldable pub is_on_falling : ℕ → ℕ → Bool
is_on_falling s k = not (s == k) && file_of s + rank_of s == file_of k + rank_of k

-- no square of the set lies before k
unfoldable pub none_below : ℕ → ℕ → Bool
none_below n k = every_square (λ j. not (nat_lt j k && has n j))

-- no square of the set lies behind k
unfoldable pub none_above : ℕ → ℕ → Bool
none_above n k = every_square (λ j. not (nat_lt k j && has n j))

-- k is on the line, and no occupied square of the line lies between s and k
unfoldable pub is_seen : ℕ → ℕ → ℕ → ℕ → Bool
is_seen line occupied s k = has line k && every_square (λ j. not ((has line j && is_inside s j k) && has occupied j))

-- where a man of that kind and side attacks on an empty board
unfoldable pub goes : Kind → Side → ℕ → ℕ → Bool
goes which side f t = not (f == t) && can_reach which side f t

-- no occupied square lies between the two
unfoldable pub is_open : ℕ → ℕ → ℕ → Bool
is_open occupied f t = every_square (λ j. not (is_between f t j && has occupied j))

-- the man on f attacks t where these squares are occupied
abbrev pub reaches : ℕ → Option Man → ℕ → ℕ → Bool
reaches occupied None f t = false
reaches occupied (Some m) f t = not (f == t) && (can_reach m.kind m.side f t && (not (slides m.kind) || is_open occupied f t))

-- straight ahead of a pawn of that side: the next square, and the one behind it from the rank where pawns begin
unfoldable pub is_ahead : Side → ℕ → ℕ → Bool
is_ahead side f t = file_of f == file_of t && (is_forward side f t || (rank_of f == pawn_rank side && rank_of t == landing_rank side))

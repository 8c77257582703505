-- Which man attacks which square, square by square (FIDE Laws, articles 3.1 to 3.9).
use Rattle.std.specs.Prelude.{ℕ, Bool, true, false, ◌+◌, ◌-◌, Option, Some, None, not, ◌&&◌, ◌||◌, ◌==◌, nat_lt, nat_le, is_some}
use Rattle.krieg_board.specs.Men.{other}
use Rattle.krieg_board.specs.Squares.{file_of, rank_of, every_square, some_square}
use Rattle.krieg_board.specs.Board.{Board, man_at, is_of, is_man}
use Rattle.krieg_board.specs.declared.men.Side.{Side}
use Rattle.krieg_board.specs.declared.men.Side.TheVariants.{White, Black}
use Rattle.krieg_board.specs.declared.men.Kind.{Kind}
use Rattle.krieg_board.specs.declared.men.Kind.TheVariants.{Pawn, Knight, Bishop, Rook, Queen, King}
use Rattle.krieg_board.specs.declared.men.Man.{Man}

-- how far apart two numbers are, whichever is the greater
abbrev pub apart : ℕ → ℕ → ℕ
apart a b = (a - b) + (b - a)

-- m lies strictly between a and b
abbrev pub is_inside : ℕ → ℕ → ℕ → Bool
is_inside a m b = (nat_lt a m && nat_lt m b) || (nat_lt b m && nat_lt m a)

-- f and t are on one file, and s is strictly between them
abbrev pub is_on_file_between : ℕ → ℕ → ℕ → Bool
is_on_file_between f t s = (file_of f == file_of t) && ((file_of f == file_of s) && is_inside (rank_of f) (rank_of s) (rank_of t))

-- f and t are on one rank, and s is strictly between them
abbrev pub is_on_rank_between : ℕ → ℕ → ℕ → Bool
is_on_rank_between f t s = (rank_of f == rank_of t) && ((rank_of f == rank_of s) && is_inside (file_of f) (file_of s) (file_of t))

-- one diagonal goes through both
abbrev pub are_on_diagonal : ℕ → ℕ → Bool
are_on_diagonal f t = apart (file_of f) (file_of t) == apart (rank_of f) (rank_of t)

-- one diagonal goes through all three, and s is strictly between the other two
abbrev pub is_on_diagonal_between : ℕ → ℕ → ℕ → Bool
is_on_diagonal_between f t s =
    are_on_diagonal f s && (are_on_diagonal s t && (is_inside (file_of f) (file_of s) (file_of t) && is_inside (rank_of f) (rank_of s) (rank_of t)))

-- s is strictly between f and t on their file, rank or diagonal
unfoldable pub is_between : ℕ → ℕ → ℕ → Bool
is_between f t s = is_on_file_between f t s || (is_on_rank_between f t s || is_on_diagonal_between f t s)

-- every square strictly between the two is empty
unfoldable pub is_clear : Board → ℕ → ℕ → Bool
is_clear b f t = every_square (λ s. not (is_between f t s && is_some (man_at b s)))

-- t is on the next rank, as that side's pawns go
abbrev pub is_forward : Side → ℕ → ℕ → Bool
is_forward White f t = rank_of t == rank_of f + 1
is_forward Black f t = rank_of f == rank_of t + 1

-- the two are on one file or on one rank
abbrev pub is_straight : ℕ → ℕ → Bool
is_straight f t = file_of f == file_of t || rank_of f == rank_of t

-- a knight's leap: one file and two ranks, or two files and one rank
abbrev pub is_leap : ℕ → ℕ → Bool
is_leap f t =
    let files = apart (file_of f) (file_of t) in
    let ranks = apart (rank_of f) (rank_of t) in
    (files == 1 && ranks == 2) || (files == 2 && ranks == 1)

-- at most one file and one rank apart
abbrev pub is_adjacent : ℕ → ℕ → Bool
is_adjacent f t = nat_le (apart (file_of f) (file_of t)) 1 && nat_le (apart (rank_of f) (rank_of t)) 1

-- where a man of that kind attacks from f on an empty board
abbrev pub can_reach : Kind → Side → ℕ → ℕ → Bool
can_reach Pawn side f t = apart (file_of f) (file_of t) == 1 && is_forward side f t
can_reach Knight side f t = is_leap f t
can_reach Bishop side f t = are_on_diagonal f t
can_reach Rook side f t = is_straight f t
can_reach Queen side f t = is_straight f t || are_on_diagonal f t
can_reach King side f t = is_adjacent f t

-- the kinds that need the squares between to be empty
abbrev pub slides : Kind → Bool
slides Pawn = false
slides Knight = false
slides Bishop = true
slides Rook = true
slides Queen = true
slides King = false

-- the man on f, where there is one, attacks t: he can go so, and where he slides nobody stands between
abbrev pub man_attacks : Board → Option Man → ℕ → ℕ → Bool
man_attacks b None f t = false
man_attacks b (Some m) f t = not (f == t) && (can_reach m.kind m.side f t && (not (slides m.kind) || is_clear b f t))

-- the man on f attacks t, whatever stands there
unfoldable pub attacks : Board → ℕ → ℕ → Bool
attacks b f t = man_attacks b (man_at b f) f t

-- some man of that side attacks the square
unfoldable pub is_attacked : Board → ℕ → Side → Bool
is_attacked b s by = some_square (λ f. is_of by (man_at b f) && attacks b f s)

-- that side's king is attacked
unfoldable pub is_king_attacked : Board → Side → Bool
is_king_attacked b side = some_square (λ k. is_man side King (man_at b k) && is_attacked b k (other side))

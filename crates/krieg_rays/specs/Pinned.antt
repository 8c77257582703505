-- Which men are pinned: each stands alone between his king and an enemy man that would attack the king along that line.
use Rattle.std.specs.Prelude.{ℕ, Bool, None, ◌&&◌, slice_set}
use Rattle.krieg_board.specs.Men.{other}
use Rattle.krieg_board.specs.Squares.{some_square}
use Rattle.krieg_board.specs.Board.{Board, man_at, is_of, is_man}
use Rattle.krieg_board.specs.Attacks.{attacks, is_between}
use Rattle.krieg_board.specs.declared.men.Side.{Side}
use Rattle.krieg_board.specs.declared.men.Kind.TheVariants.{King}

-- a man of that side on f would attack k, were s empty, and s lies strictly between the two
abbrev pub is_pinned_by : Board → Side → ℕ → ℕ → ℕ → Bool
is_pinned_by b by f k s = is_of by (man_at b f) && (is_between f k s && attacks (slice_set b s None) f k)

-- a man of that side stands on s, and an enemy man would attack his king, were s empty, along the line on which s lies
unfoldable pub is_pinned : Board → Side → ℕ → Bool
is_pinned b who s =
    is_of who (man_at b s) && some_square (λ k. is_man who King (man_at b k) && some_square (λ f. is_pinned_by b (other who) f k s))

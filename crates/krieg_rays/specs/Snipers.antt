-- The men that attack a square by their kind alone, those that would attack it along a line, and sets of one square.
use Rattle.std.specs.Prelude.{ℕ, Bool, ◌==◌, ◌&&◌, ◌||◌, not}
use Rattle.krieg_board.specs.Men.{other}
use Rattle.krieg_board.specs.Squares.{every_square}
use Rattle.krieg_board.specs.Board.{Board, man_at, is_of}
use Rattle.krieg_board.specs.Boards.{is_kind}
use Rattle.krieg_board.specs.Sets.{has}
use Rattle.krieg_board.specs.declared.men.Side.{Side}
use Rattle.krieg_board.specs.declared.men.Side.TheVariants.{White}
use Rattle.krieg_board.specs.declared.men.Kind.TheVariants.{Pawn, Knight, Bishop, Rook, Queen, King}
use Rattle.krieg_rays.specs.Rays.{goes}

-- a pawn, a knight or a king on f would attack s, were he of that side
abbrev pub is_near : Board → Side → ℕ → ℕ → Bool
is_near b by s f =
    (goes Pawn (other by) s f && is_kind Pawn (man_at b f)) || ((goes Knight White s f && is_kind Knight (man_at b f)) || (goes King White s f && is_kind King (man_at b f)))

-- a man of that side on f would attack s along a line, did nobody stand between
unfoldable pub is_sniper : Board → Side → ℕ → ℕ → Bool
is_sniper b by s f =
    ((goes Rook White s f && (is_kind Rook (man_at b f) || is_kind Queen (man_at b f)))
    || (goes Bishop White s f && (is_kind Bishop (man_at b f) || is_kind Queen (man_at b f))))
    && is_of by (man_at b f)

-- the set has the square, and no other
unfoldable pub is_only : ℕ → ℕ → Bool
is_only n s = has n s && every_square (λ j. not (has n j && not (j == s)))

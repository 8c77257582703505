-- The made session of a number.
use Rattle.std.specs.Prelude.{ℕ, ◌+◌, ◌%◌, ◌==◌, List, [], ◌∷◌, None, slice_index_or, if◌then◌else◌}
use Rattle.krieg_board.specs.Men.{other}
use Rattle.krieg_board.specs.Squares.{gathered}
use Rattle.krieg_board.specs.declared.men.Side.{Side}
use Rattle.krieg_board.specs.declared.men.Side.TheVariants.{White, Black}
use Rattle.krieg_board.specs.declared.men.Move.{Move}
use Rattle.krieg_moves.specs.Moves.{plain_move}
use Rattle.krieg_words.specs.declared.dialects.Dialect.TheVariants.{Wild16}
use Rattle.krieg_umpire.specs.declared.verdict.Event.{Event}
use Rattle.krieg_umpire.specs.Sessions.{SessionState}
use Rattle.krieg_make.specs.Named.{g1, f3, g8, f6}
use Rattle.krieg_make.specs.Start.{start_position}

-- how many rounds the session has, from 1000 to 1999
abbrev pub made_rounds : ℕ → ℕ
made_rounds s = 1000 + s % 1000

-- who moves in the round with that number, from 0: White and Black by turns
abbrev pub mover : ℕ → Side
mover m = if m % 2 == 0 then White else Black

-- a knight of each side goes out, and then both come back
abbrev pub knight_moves : List Move
knight_moves = plain_move g1 f3 ∷ plain_move g8 f6 ∷ plain_move f3 g1 ∷ plain_move f6 g8 ∷ []

-- the move of the round
abbrev pub knight_move : ℕ → Move
knight_move m = slice_index_or knight_moves (m % 4) (plain_move g1 f3)

-- the move from a square to itself, which is legal nowhere; each round has the next square
abbrev pub no_move : ℕ → ℕ → Move
no_move s m = plain_move ((s + m) % 64) ((s + m) % 64)

-- a try of that side
abbrev pub event : Side → Move → Event
event who m = record { who = who; mv = m }

-- the side that is not to move tries what is legal nowhere, then the mover does, and then he makes his move
abbrev pub round_of : ℕ → ℕ → List Event
round_of s m = event (other (mover m)) (no_move s m) ∷ event (mover m) (no_move s m) ∷ event (mover m) (knight_move m) ∷ []

-- the tries of the first n rounds
unfoldable pub made_tries : ℕ → ℕ → List Event
made_tries s n = gathered (round_of s) n

-- those of all rounds
abbrev pub made_events : ℕ → List Event
made_events s = made_tries s (made_rounds s)

-- the session in wild16 that begins where a game begins, has these tries, and does not say why it stopped
abbrev pub made_session : ℕ → SessionState
made_session s = record { dialect = Wild16; start = start_position; events = made_events s; stop = None }

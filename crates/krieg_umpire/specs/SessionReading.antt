-- The session that a text spells, line by line.
use Rattle.std.specs.Prelude.{ℕ, List, [], ◌∷◌, ◌++◌, codes, Option, Some, None, Result, Ok, Err}
use Rattle.krieg_board.specs.Pos.{Pos}
use Rattle.krieg_board.specs.declared.men.Side.{Side}
use Rattle.krieg_board.specs.declared.men.Side.TheVariants.{White, Black}
use Rattle.krieg_board.specs.declared.men.Move.{Move}
use Rattle.krieg_text.specs.declared.fault.TextKind.{TextKind}
use Rattle.krieg_text.specs.declared.fault.TextKind.TheVariants.{Syntax}
use Rattle.krieg_text.specs.Names.{behind}
use Rattle.krieg_fen.specs.MoveText.{move_of}
use Rattle.krieg_text.specs.Outcomes.{◌>>=◌}
use Rattle.krieg_text.specs.Reading.{LineReader, taken, Step, goes_on, stops, up_to_last}
use Rattle.krieg_fen.specs.Forms.{position_form, start_form}
use Rattle.krieg_text.specs.Formats.{named, one_of}
use Rattle.krieg_words.specs.declared.dialects.Dialect.{Dialect}
use Rattle.krieg_wordtext.specs.Versions.{version_at}
use Rattle.krieg_umpire.specs.declared.verdict.Event.{Event}
use Rattle.krieg_umpire.specs.declared.verdict.Stop.{Stop}
use Rattle.krieg_umpire.specs.declared.verdict.Stop.TheVariants.{Ended, Left, AsksUsed}
use Rattle.krieg_umpire.specs.Sessions.{SessionState}
use Rattle.krieg_umpire.specs.declared.reading.SessionLine.{SessionLine}
use Rattle.krieg_umpire.specs.declared.reading.SessionLine.TheVariants.{Try, Last}

-- the format's name with one of its two versions, and the dialect
unfoldable pub session_version_at : LineReader Dialect
session_version_at p = version_at (codes "krieg session ") p

-- a try of that side, where the move is one
abbrev pub tried : Side → Option Move → Result Event TextKind
tried who None = Err Syntax
tried who (Some m) = Ok (record { who = who; mv = m })

-- a try of White's, by the text behind his mark, or else one of Black's
abbrev pub white_try : Option (List ℕ) → List ℕ → Result Event TextKind
white_try (Some text) line = tried White (move_of text)
white_try None line = named (codes "b ") (λ text. tried Black (move_of text)) line

-- a player and a move
unfoldable pub try_form : List ℕ → Result Event TextKind
try_form line = white_try (behind (codes "w ") line) line

-- the last lines, and why the game stopped
abbrev pub last_lines : List (List ℕ × Option Stop)
last_lines =
    (codes "end", None)
    ∷ (codes "end over", Some Ended)
    ∷ (codes "end left w", Some (Left White))
    ∷ (codes "end left b", Some (Left Black))
    ∷ (codes "end asks", Some AsksUsed)
    ∷ []

-- why the game stopped, where the line is a last one
unfoldable pub last_form : List ℕ → Option (Option Stop)
last_form line = one_of last_lines line

-- a last line, or else a try
abbrev pub unless_last : Option (Option Stop) → List ℕ → Result SessionLine TextKind
unless_last (Some stop) line = Ok (Last stop)
unless_last None line = try_form line >>= λ e. Ok (Try e)

-- the last line, or a try
unfoldable pub line_form : List ℕ → Result SessionLine TextKind
line_form line = unless_last (last_form line) line

-- the tries are all, or go on with one more
abbrev pub led : List Event → SessionLine → Step (List Event) (List Event × Option Stop)
led es (Last stop) = stops (es, stop)
led es (Try e) = goes_on (es ++ e ∷ [])

-- the next line of a session behind these tries: one more try, or the end
abbrev pub event_form : List Event → List ℕ → Result (Step (List Event) (List Event × Option Stop)) TextKind
event_form es line = line_form line >>= λ l. Ok (led es l)

-- the tries up to the last line
abbrev pub events_at : LineReader (List Event × Option Stop)
events_at p = up_to_last event_form [] p.number p.left

-- the places of a session in their order: version and dialect, start, tries, last line
unfoldable pub session_at : LineReader SessionState
session_at p = do
  dialect ← session_version_at p
  start ← taken start_form dialect.1
  events ← events_at start.1
  Ok (record { dialect = dialect.0; start = start.0; events = events.0.0; stop = events.0.1 }, events.1)

-- a text of one line that is a position
abbrev pub start_at : LineReader Pos
start_at p = taken position_form p

-- The record that a text spells, line by line.
use Rattle.std.specs.Prelude.{ℕ, Bool, true, false, List, [], ◌∷◌, ◌++◌, codes, Option, Some, None, Result, Ok, Err, if◌then◌else◌}
use Rattle.std.specs.Str.{bytes_eq}
use Rattle.krieg_board.specs.Men.{is_same_side}
use Rattle.krieg_board.specs.Pos.{Pos}
use Rattle.krieg_board.specs.declared.men.Side.{Side}
use Rattle.krieg_board.specs.declared.men.Side.TheVariants.{White, Black}
use Rattle.krieg_board.specs.declared.men.Move.{Move}
use Rattle.krieg_text.specs.declared.fault.TextKind.{TextKind}
use Rattle.krieg_text.specs.declared.fault.TextKind.TheVariants.{Syntax, OutOfPlace}
use Rattle.krieg_text.specs.Names.{behind}
use Rattle.krieg_text.specs.Outcomes.{◌>>=◌}
use Rattle.krieg_text.specs.Reading.{LineReader, taken, Step, goes_on, stops, up_to_last}
use Rattle.krieg_text.specs.Forms.{version_form}
use Rattle.krieg_record.specs.declared.san_reading.SanFault.{SanFault}
use Rattle.krieg_record.specs.declared.san_reading.SanFault.TheVariants as fault
use Rattle.krieg_record.specs.declared.record_reading.RecordLine.{RecordLine}
use Rattle.krieg_record.specs.declared.record_reading.RecordLine.TheVariants.{Played, End}
use Rattle.krieg_record.specs.Records.{RecordState, after_all}
use Rattle.krieg_record.specs.SanReading.{meant}
use Rattle.krieg_fen.specs.Forms.{start_form}

-- the format's name with its one version
unfoldable pub record_version : List ℕ → Result ℕ TextKind
record_version line = version_form (codes "krieg record ") 1 line

-- White's mark, or else Black's
abbrev pub marked_by : Option (List ℕ) → Option (List ℕ) → Option (Side × List ℕ)
marked_by (Some text) black = Some (White, text)
marked_by None (Some text) = Some (Black, text)
marked_by None None = None

-- whose mark the line has, and what stands behind it
unfoldable pub marked : List ℕ → Option (Side × List ℕ)
marked line = marked_by (behind (codes "w ") line) (behind (codes "b ") line)

-- A text that is not of the form is syntax. One that is of it, and means no move of the side to move, is out of place.
abbrev pub in_turn : Bool → Result Move SanFault → Result Move TextKind
in_turn turn (Err fault.Syntax) = Err Syntax
in_turn false r = Err OutOfPlace
in_turn true (Err e) = Err OutOfPlace
in_turn true (Ok m) = Ok m

-- the move that a line means, by the side of its mark
abbrev pub move_by : Pos → Option (Side × List ℕ) → Result Move TextKind
move_by p None = Err Syntax
move_by p (Some s) = in_turn (is_same_side s.0 p.side) (meant p s.1)

-- the move that the line spells where that position stands
unfoldable pub move_form : Pos → List ℕ → Result Move TextKind
move_form p line = move_by p (marked line)

-- the last line, or a move
unfoldable pub line_form : Pos → List ℕ → Result RecordLine TextKind
line_form p line = if bytes_eq line (codes "end") then Ok End else (move_form p line >>= λ m. Ok (Played m))

-- the moves are all, or go on with one more
abbrev pub led : List Move → RecordLine → Step (List Move) (List Move × Unit {0})
led ms End = stops (ms, tt)
led ms (Played m) = goes_on (ms ++ m ∷ [])

-- the next line of a record behind these moves: one more move, or the end
abbrev pub step_form : Pos → List Move → List ℕ → Result (Step (List Move) (List Move × Unit {0})) TextKind
step_form start ms line = line_form (after_all start ms) line >>= λ l. Ok (led ms l)

-- the moves up to the last line
abbrev pub moves_at : Pos → LineReader (List Move × Unit {0})
moves_at start p = up_to_last (step_form start) [] p.number p.left

-- the places of a record in their order: version, start, moves, last line
unfoldable pub record_at : LineReader RecordState
record_at p = do
  version ← taken record_version p
  start ← taken start_form version.1
  moves ← moves_at start.0 start.1
  Ok (record { start = start.0; moves = moves.0.0 }, moves.1)

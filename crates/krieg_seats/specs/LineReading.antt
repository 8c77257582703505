-- What no public clause cites: one byte and one line of a source, as they are read.
use Rattle.std.specs.Prelude.{◌≡◌, ◌+◌, ℕ, ◌≤◌, ⊤, List, [], ◌∷◌, length, take, Option, Some, None, option_map}
use Rattle.std.specs.Io.KnownBytes.{Consumes, IsAtEnd}
use Rattle.krieg_fen.specs.MoveText.{move_of}
use Rattle.krieg_seats.specs.declared.seat.Say.{Say}
use Rattle.krieg_seats.specs.declared.seat.Say.TheVariants.{Try, Leave}
use Rattle.krieg_seats.specs.declared.saying.LineRead.{LineRead}
use Rattle.krieg_seats.specs.declared.saying.LineRead.TheVariants.{Whole, Long, Absent}

-- the source gave this byte, or no byte is left
abbrev pub GivesByte : Option (List ℕ) → Option (List ℕ) → Option ℕ → Type 0
GivesByte before now (Some b) = Consumes before now (b ∷ [])
GivesByte before now None = Consumes before now [] × IsAtEnd now

-- the source gave so many bytes
abbrev pub GivesCount : ℕ → Option (List ℕ) → Option (List ℕ) → Type 0
GivesCount n None now = ⊤
GivesCount n (Some bytes) None = ⊥
GivesCount n (Some bytes) (Some rest) = length bytes ≡ n + length rest

-- what a line says that was read so, where these bytes stand in the buffer
abbrev pub said_so : LineRead → List ℕ → Option Say
said_so (Whole n) line = option_map Try (move_of (take n line))
said_so Long line = None
said_so Absent line = Some Leave

abbrev pub IsWithin : LineRead → Type 0
IsWithin (Whole n) = n ≤ 5
IsWithin Long = Unit {0}
IsWithin Absent = Unit {0}

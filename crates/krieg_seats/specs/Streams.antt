-- What a clause reads of a seat over two streams of the system, and what a call makes of the streams.
use Rattle.std.specs.Prelude.{◌≡◌, ℕ, ◌⊎◌, Bool, false, List, Option, None, Result, Ok, Err, is_some, option_and_then}
use Rattle.std.specs.Option.{option_map_or}
use Rattle.std.specs.Io.KnownBytes.{Appends, Keeps}
use Rattle.krieg_ports.specs.Adapters.{inner_reader, inner_writer, read_faults, write_faults}
use Rattle.krieg_ports.specs.Bytes.{AppendsPrefix}
use Rattle.krieg_ports.specs.Faults.{Rose}
use Rattle.krieg_ports.specs.declared.adapters.Adapter.{Adapter}
use Rattle.krieg_ports.specs.declared.adapters.AdapterOut.{AdapterOut}
use Rattle.krieg_seats.specs.Accounts.{Account}
use Rattle.krieg_seats.specs.Saying.{lines_left, ReadsLine, IsEndless}
use Rattle.krieg_seats.specs.declared.seat.SeatFault.{SeatFault}
use Rattle.krieg_seats.specs.declared.seat.SeatFault.TheVariants.{Failed, NoMemory}
use Rattle.krieg_seats.specs.declared.stream.StreamSeat.{StreamSeat}

-- ---- a reader and a writer, which may be missing

-- the bytes that the reader has left, where it tells them
abbrev pub bytes_from : {R : Type 0} → (R → Option (List ℕ)) → Option (Adapter R) → Option (List ℕ)
bytes_from remaining from = option_and_then (λ a. remaining (inner_reader a)) from

-- how many of its calls failed
abbrev pub faults_from : {R : Type 0} → Option (Adapter R) → ℕ
faults_from from = option_map_or read_faults from 0

-- the bytes that the writer has got, where it tells them
abbrev pub bytes_to : {W : Type 0} → (W → Option (List ℕ)) → Option (AdapterOut W) → Option (List ℕ)
bytes_to contents to = option_and_then (λ a. contents (inner_writer a)) to

-- how many of its calls failed
abbrev pub faults_to : {W : Type 0} → Option (AdapterOut W) → ℕ
faults_to to = option_map_or write_faults to 0

-- a line says nothing, a call of the reader failed, or a line that is passed over has no end within reach
abbrev pub SaysNothing : {R : Type 0} → (R → Option (List ℕ)) → Bool → Bool → Option (Adapter R) → Option (Adapter R) → Type 0
SaysNothing remaining inside inside' from from' =
    ReadsLine None (lines_left inside (bytes_from remaining from)) (lines_left inside' (bytes_from remaining from'))
    ⊎ (Rose (faults_from from) (faults_from from') ⊎ IsEndless (bytes_from remaining from))

-- the text was written, or a front part of it where a fault was met, or nothing of it where no memory was found
abbrev pub Writes : Result (Unit {0}) SeatFault → Option (List ℕ) → Option (List ℕ) → List ℕ → Type 0
Writes (Ok _) before now text = Appends before now text
Writes (Err Failed) before now text = AppendsPrefix before now text
Writes (Err NoMemory) before now text = Keeps before now

-- there is no writer, or a call of it failed
abbrev pub FailsToWrite : {W : Type 0} → Option (AdapterOut W) → Option (AdapterOut W) → Type 0
FailsToWrite to to' = (is_some to ≡ false) ⊎ Rose (faults_to to) (faults_to to')

-- ---- a seat

-- what it has said and heard, and its counts
abbrev pub stream_account : {R W : Type 0} → StreamSeat R W → Account
stream_account s = record { said = s.said.items; heard = s.heard.items; asks = s.asks; faults = s.faults; leaves = s.leaves }

-- whether it has a reader, and a writer
abbrev pub has_reader : {R W : Type 0} → StreamSeat R W → Bool
has_reader s = is_some s.from

-- the seat has something to be told into
abbrev pub has_writer : {R W : Type 0} → StreamSeat R W → Bool
has_writer s = is_some s.to

-- both are there exactly where they were
abbrev pub KeepsEnds : {R W : Type 0} → StreamSeat R W → StreamSeat R W → Type 0
KeepsEnds before now = (has_reader now ≡ has_reader before) × (has_writer now ≡ has_writer before)

-- the lines that its reader has left, where it tells them
abbrev pub lines_of : {R W : Type 0} → (R → Option (List ℕ)) → StreamSeat R W → Option (List ℕ)
lines_of remaining s = lines_left s.inside (bytes_from remaining s.from)

-- what its writer has got, where it tells it
abbrev pub written_of : {R W : Type 0} → (W → Option (List ℕ)) → StreamSeat R W → Option (List ℕ)
written_of contents s = bytes_to contents s.to

-- its reader gave no line that says something
abbrev pub HearsNothing : {R W : Type 0} → (R → Option (List ℕ)) → StreamSeat R W → StreamSeat R W → Type 0
HearsNothing remaining before now = SaysNothing remaining before.inside now.inside before.from now.from

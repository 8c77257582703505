-- What a seat has said and heard, and what one call makes of it.
use Rattle.std.specs.Prelude.{◌≡◌, ℕ, ◌≤◌, List, [], ◌∷◌, ◌++◌, Result, Ok, Err}
use Rattle.krieg_ports.specs.Faults.{one_more, Rose}
use Rattle.krieg_board.specs.declared.men.Move.{Move}
use Rattle.krieg_wordtext.specs.declared.line.Line.{Line}
use Rattle.krieg_seats.specs.declared.seat.Say.{Say}
use Rattle.krieg_seats.specs.declared.seat.Say.TheVariants.{Try, Leave}
use Rattle.krieg_seats.specs.declared.seat.SeatFault.{SeatFault}
use Rattle.krieg_seats.specs.declared.seat.SeatFault.TheVariants.{Failed, NoMemory}

-- what a seat has said and heard, and how often it was asked, failed and left
pub record Account : Type 0 where
  -- the moves that it said and the lines that it heard, in order
  pub said : List Move
  pub heard : List Line
  -- how often it was asked, how many of its calls failed, and how often it left
  pub asks : ℕ
  pub faults : ℕ
  pub leaves : ℕ

-- a seat that nothing was asked of and nothing told to
abbrev pub new_account : Account
new_account = record { said = []; heard = []; asks = 0; faults = 0; leaves = 0 }

-- a call that failed: the count of faults rose, and nothing else changed
abbrev pub Fails : Account → Account → Type 0
Fails before now = Rose before.faults now.faults × (now ≡ record before { faults = now.faults })

-- a call that found no memory: the count of faults did not fall, and nothing else changed
abbrev pub RunsShort : Account → Account → Type 0
RunsShort before now = (before.faults ≤ now.faults) × (now ≡ record before { faults = now.faults })

-- a seat that left: the count of leaves rose, and nothing else changed
abbrev pub Leaves : Account → Account → Type 0
Leaves before now = Rose before.leaves now.leaves × (now ≡ record before { leaves = now.leaves })

-- the same seat, asked once more
abbrev pub once_asked : Account → Account
once_asked a = record a { asks = one_more a.asks }

-- what a call that asks makes of a seat, by its answer: it is asked once more, and nothing changes beside that but this
abbrev pub Asked : Result Say SeatFault → Account → Account → Type 0
Asked (Ok (Try m)) before now = now ≡ record (once_asked before) { said = before.said ++ m ∷ [] }
Asked (Ok Leave) before now = Leaves (once_asked before) now
Asked (Err Failed) before now = Fails (once_asked before) now
Asked (Err NoMemory) before now = RunsShort (once_asked before) now

-- what a call that tells the line makes of a seat, by its answer
abbrev pub Told : Line → Result (Unit {0}) SeatFault → Account → Account → Type 0
Told line (Ok _) before now = now ≡ record before { heard = before.heard ++ line ∷ [] }
Told line (Err Failed) before now = Fails before now
Told line (Err NoMemory) before now = RunsShort before now

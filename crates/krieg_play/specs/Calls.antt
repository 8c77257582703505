-- What no public clause cites: what each call of one side's seats makes of them.
use Rattle.std.specs.Prelude.{◌≡◌, ℕ, ◌+◌, ◌<◌, ◌≤◌, ◌⊎◌, List, [], ◌∷◌, ◌++◌, length, Result, Ok, Err, Vec, vec_len, vec_capacity}
use Rattle.krieg_ports.specs.Faults.{Rose}
use Rattle.krieg_board.specs.Pos.{Pos}
use Rattle.krieg_board.specs.declared.men.Move.{Move}
use Rattle.krieg_board.specs.declared.men.Side.{Side}
use Rattle.krieg_words.specs.WordsOfMoves.{opening}
use Rattle.krieg_wordtext.specs.declared.line.Line.{Line}
use Rattle.krieg_wordtext.specs.declared.line.Line.TheVariants.{Opens}
use Rattle.krieg_umpire.specs.Hearing.{lines_for}
use Rattle.krieg_umpire.specs.declared.verdict.Judged.{Judged}
use Rattle.krieg_seats.specs.Accounts.{Account, Asked}
use Rattle.krieg_seats.specs.declared.seat.Say.TheVariants.{Try, Leave}
use Rattle.krieg_seats.specs.declared.seat.SeatFault.{SeatFault}
use Rattle.krieg_seats.specs.declared.seat.SeatFault.TheVariants.{Failed, NoMemory}
use Rattle.krieg_play.specs.Teams.{Team, Turns, Course, BrokenCourse, Stays, HasLeft, HasFailed, MayBeShort}
use Rattle.krieg_play.specs.declared.ask_outcome.AskOutcome.{AskOutcome}
use Rattle.krieg_play.specs.declared.ask_outcome.AskOutcome.TheVariants.{Tried, Relieved, Left}

-- ---- one seat

-- the lines of a side so far, in the umpire's words: the opening words, and then a line for each try of which it hears
abbrev pub lines_to : Pos → Side → List Judged → List Line
lines_to start who log = Opens (opening start) ∷ lines_for who log

-- the seat heard a front part of the lines, and nothing else changed but its count of faults
pub record BreaksOff (lines : List Line) (before now : Account) : Type 0 where
  pub told : List Line
  pub due : List Line
  pub split : told ++ due ≡ lines
  pub now_is : now ≡ record before { heard = before.heard ++ told; faults = now.faults }

-- what telling a seat these lines, one after another, makes of it
abbrev pub ToldAll : List Line → Result (Unit {0}) SeatFault → Account → Account → Type 0
ToldAll lines (Ok _) before now = now ≡ record before { heard = before.heard ++ lines }
ToldAll lines (Err Failed) before now = BreaksOff lines before now × Rose before.faults now.faults
ToldAll lines (Err NoMemory) before now = BreaksOff lines before now × (before.faults ≤ now.faults)

-- what asking a lone seat, which nobody relieves, makes of it
abbrev pub AsksLone : Result AskOutcome SeatFault → Account → Account → Type 0
AsksLone (Ok (Tried m)) before now = Asked (Ok (Try m)) before now
AsksLone (Ok Relieved) before now = ⊥
AsksLone (Ok Left) before now = Asked (Ok Leave) before now
AsksLone (Err fault) before now = Asked (Err fault) before now

-- the first of the list changed so, and the others stay
pub record FirstChanges {X : Type 0} (R : X → X → Type 0) (before now : List X) : Type 0 where
  pub first : X
  pub first' : X
  pub behind : List X
  pub then_is : before ≡ first ∷ behind
  pub now_is : now ≡ first' ∷ behind
  pub changes : R first first'

-- ---- one side

-- there is a seat, and room for each in the out list
abbrev pub IsReady : {X Z : Type 0} → Vec X Z → Vec X Z → Type 0
IsReady seats out = (0 < vec_len seats) × (vec_len seats + vec_len out ≤ vec_capacity out)

-- what the sitting seat's counts came to where a call of the side ends with the fault of a seat
abbrev pub seat_counts : SeatFault → ℕ → Account → Account → Type 0
seat_counts Failed = HasFailed
seat_counts NoMemory = MayBeShort

-- what a side did when a call that tells it has answered: its sitting seat has heard all, or met this fault
abbrev pub AfterTelling : {X : Type 0} → (X → Account) → Result (Unit {0}) SeatFault → Team X → Team X → List Line → Turns → Type 0
AfterTelling account (Ok _) entry now lines turns = Course account Stays entry now lines [] turns
AfterTelling account (Err fault) entry now lines turns = BrokenCourse account (seat_counts fault) entry now lines turns

-- a relief, from any course so far whose sitting seat has these counts
abbrev pub Relieves : {X : Type 0} → (X → Account) → (ℕ → Account → Account → Type 0) → Result (Unit {0}) SeatFault → Team X → Team X → List Line → Type 0
Relieves {X} account Counts r before now lines =
    (entry : Team X) (due : List Line) (turns : Turns) → Course account Counts entry before lines due turns → AfterTelling account r entry now lines turns

-- telling these lines, from any course so far of which they are due
abbrev pub Tells : {X : Type 0} → (X → Account) → Result (Unit {0}) SeatFault → Team X → Team X → List Line → List Line → Type 0
Tells {X} account r before now lines due =
    (entry : Team X) (turns : Turns) → Course account Stays entry before lines due turns → AfterTelling account r entry now lines turns

-- a side that was asked once more
abbrev pub once_more : Turns → Turns
once_more turns = record turns { asks = turns.asks + 1 }

-- a side that said one more try
abbrev pub one_try : Move → Turns → Turns
one_try m turns = record turns { tries = turns.tries ++ m ∷ [] }

-- what a side did when its sitting seat was asked
abbrev pub AfterTurn : {X : Type 0} → (X → Account) → Result AskOutcome SeatFault → Team X → Team X → List Line → Turns → Type 0
AfterTurn account (Ok (Tried m)) entry now lines turns = Course account Stays entry now lines [] (one_try m turns)
AfterTurn account (Ok Relieved) entry now lines turns = Course account Stays entry now lines [] turns
AfterTurn account (Ok Left) entry now lines turns = Course account HasLeft entry now lines [] turns
AfterTurn account (Err fault) entry now lines turns = BrokenCourse account (seat_counts fault) entry now lines turns

-- a turn, from any course so far whose sitting seat has heard all: the side was asked once more
abbrev pub TakesTurn : {X : Type 0} → (X → Account) → Result AskOutcome SeatFault → Team X → Team X → List Line → Type 0
TakesTurn {X} account r before now lines =
    (entry : Team X) (turns : Turns) → Course account Stays entry before lines [] turns → AfterTurn account r entry now lines (once_more turns)

-- the rest of a turn in which the sitting seat has left, from any course so far
abbrev pub EndsTurn : {X : Type 0} → (X → Account) → Result AskOutcome SeatFault → Team X → Team X → List Line → Type 0
EndsTurn {X} account r before now lines =
    (entry : Team X) (turns : Turns) → Course account HasLeft entry before lines [] turns → AfterTurn account r entry now lines turns

-- the turn of a side whose sitting seat was relieved
abbrev pub relieved_turn : Result (Unit {0}) SeatFault → Result AskOutcome SeatFault
relieved_turn (Ok _) = Ok Relieved
relieved_turn (Err fault) = Err fault

-- the last seat of the side left or failed
abbrev pub IsLastOnes : Result AskOutcome SeatFault → Type 0
IsLastOnes r = (r ≡ Ok Left) ⊎ (r ≡ Err Failed)

-- what asking a side makes of it, and of how many seats it has
pub record AsksTeam {X : Type 0} (account : X → Account) (r : Result AskOutcome SeatFault) (before now : Team X) (lines : List Line) : Type 0 where
  pub takes : TakesTurn account r before now lines
  pub fewer : r ≡ Ok Relieved → length now.seats < length before.seats
  pub no_more : length now.seats ≤ length before.seats
  pub kept : r ≡ Ok Left → length now.seats ≡ length before.seats
  pub last : IsLastOnes r → length now.seats ≡ 1

-- what telling a side lines that are due makes of it, and of how many seats it has
pub record TellsTeam {X : Type 0} (account : X → Account) (r : Result (Unit {0}) SeatFault) (before now : Team X) (lines due : List Line) : Type 0 where
  pub tells : Tells account r before now lines due
  pub no_more : length now.seats ≤ length before.seats
  pub last : r ≡ Err Failed → length now.seats ≡ 1

-- The parts of the work answer a value, or the ending of a run that has none.
use Rattle.std.specs.Prelude.{◌≡◌, ◌≤◌, ◌⊎◌, ℕ, Bool, true, false, List, Some, Result, Ok, Err, Vec}
use Rattle.std.specs.declared.alloc.Global.{Global}
use Rattle.krieg_board.specs.Pos.{Pos}
use Rattle.krieg_text.specs.declared.fault.TextFault.{TextFault}
use Rattle.krieg_text.specs.declared.fault.TextFault.TheVariants as fault
use Rattle.krieg_ports.specs.declared.transfer.ReadEnd.{ReadEnd}
use Rattle.krieg_ports.specs.declared.transfer.ReadEnd.TheVariants as unread
use Rattle.krieg_belief.specs.declared.beliefs.BeliefStop.{BeliefStop}
use Rattle.krieg_belief.specs.declared.beliefs.BeliefStop.TheVariants as stop
use Rattle.krieg_parting.specs.declared.stop.PartStop.{PartStop}
use Rattle.krieg_parting.specs.declared.stop.PartStop.TheVariants as part
use Rattle.krieg_search.specs.declared.stop.SearchStop.{SearchStop}
use Rattle.krieg_search.specs.declared.stop.SearchStop.TheVariants as search
use Rattle.krieg_seats.specs.Accounts.{Account}
use Rattle.krieg_play.specs.Played.{Sides}
use Rattle.krieg_args.specs.declared.command.Command.{Command}
use Rattle.krieg_args.specs.declared.command.Command.TheVariants.{Refute}
use Rattle.krieg_fen.specs.declared.forms.TheConstants.{MOST_LISTED}
use Rattle.krieg_args.specs.declared.command.TheConstants.{MOST_FIND_MOVES}
use Rattle.krieg_outcome.specs.declared.commands.search.SearchKind.{SearchKind}
use Rattle.krieg_outcome.specs.declared.commands.search.SearchKind.TheVariants as kind
use Rattle.krieg_outcome.specs.declared.commands.search.Terms.{Terms}
use Rattle.krieg_outcome.specs.Live.{HasBegunBy, calls_seats}
use Rattle.krieg_board.specs.declared.men.Side.{Side}
use Rattle.krieg_words.specs.declared.dialects.Dialect.{Dialect}
use Rattle.krieg_outcome.specs.Solve.{Searched}
use Rattle.krieg_outcome.specs.Find.{Found}
use Rattle.krieg_outcome.specs.Keys.{Keyed}
use Rattle.krieg_outcome.specs.Share.{SharedBy}
use Rattle.krieg_robot.specs.declared.led.LeadFault.{LeadFault}
use Rattle.krieg_robot.specs.declared.led.LeadFault.TheVariants as led
use Rattle.krieg_outcome.specs.declared.refusal.Refusal.{Refusal}
use Rattle.krieg_play.specs.declared.outcome.PlayFault.{PlayFault}
use Rattle.krieg_play.specs.declared.outcome.PlayFault.TheVariants as played
use Rattle.krieg_outcome.specs.declared.refusal.Refusal.TheVariants.{BadText, TooMany, BudgetSpent, PlanTooLarge, NoSeat, SeatFault}
use Rattle.krieg_outcome.specs.declared.answer.CommandAnswer.{CommandAnswer}
use Rattle.krieg_outcome.specs.declared.answer.CommandAnswer.TheVariants.{Whole, InPieces}
use Rattle.krieg_outcome.specs.declared.ending.Ending.{Ending}
use Rattle.krieg_outcome.specs.declared.ending.Ending.TheVariants.{Answered, TooLong, ReadFault, NoMemory, Refused}

-- a source that was not read to its end
abbrev pub of_read : ReadEnd → Ending
of_read unread.TooLong = TooLong
of_read unread.ReadFault = ReadFault
of_read unread.NoMemory = NoMemory

-- a text that was not read
abbrev pub of_text : TextFault → Ending
of_text (fault.At line kind) = Refused (BadText line kind)
of_text fault.NoMemory = NoMemory

-- a set that was not found
abbrev pub of_belief : BeliefStop → Ending
of_belief (stop.TooMany line) = Refused (TooMany line)
of_belief stop.NoMemory = NoMemory

-- a plan or a refutation that is not looked at to its end
abbrev pub of_part : PartStop → Ending
of_part part.Spent = Refused BudgetSpent
of_part part.NoMemory = NoMemory

-- a search without an answer, for a plan or for claims
abbrev pub of_search : SearchStop → Ending
of_search search.Spent = Refused BudgetSpent
of_search search.Large = Refused PlanTooLarge
of_search search.NoMemory = NoMemory

-- a game that was not played to its stop
abbrev pub of_play : PlayFault → Ending
of_play (played.Vacant who) = Refused (NoSeat who)
of_play (played.Seat who) = Refused (SeatFault who)
of_play played.NoMemory = NoMemory

-- a game that was led and given up, against the player of that side
abbrev pub of_lead : Side → LeadFault → Ending
of_lead who led.Seat = Refused (SeatFault who)
of_lead who led.NoMemory = NoMemory

-- ---- answers

-- the bytes of an answer
abbrev pub bytes_of : CommandAnswer → List ℕ
bytes_of (Whole text) = text.items
bytes_of (InPieces text) = text

-- a text as an answer, where there is one
abbrev pub as_whole : Result (Vec ℕ Global) Ending → Result CommandAnswer Ending
as_whole (Ok text) = Ok (Whole text)
as_whole (Err ending) = Err ending

-- the same of a text in pieces
abbrev pub as_pieces : Result (List ℕ) Ending → Result CommandAnswer Ending
as_pieces (Ok text) = Ok (InPieces text)
as_pieces (Err ending) = Err ending

-- the command whose answer is in pieces
abbrev pub is_in_pieces : Command → Bool
is_in_pieces (Refute moves budget limit) = true
is_in_pieces _ = false

-- how a command that answers or not ends
abbrev pub ending_of : {X : Type 0} → Result X Ending → Ending
ending_of (Ok x) = Answered
ending_of (Err ending) = ending

-- what was computed, seen by view, is an outcome, unless memory ran out
abbrev pub Decides : {X Y : Type 0} → (X → Y) → Result X Ending → (Result Y Refusal → Type 0) → Type 0
Decides view (Ok x) Outcome = Outcome (Ok (view x))
Decides view (Err (Refused refusal)) Outcome = Outcome (Err refusal)
Decides view (Err NoMemory) Outcome = Unit {0}
Decides view (Err _) Outcome = ⊥

-- what may be asked of a search: no more moves than `find` takes, and no more positions than a text lists
pub record AreTerms (t : Terms) : Type 0 where
  pub most : t.moves ≤ MOST_FIND_MOVES
  pub few : t.limit ≤ MOST_LISTED

-- what a search for the best plan makes of positions: that of `find`, which may cut tries, or that of `solve`
abbrev pub SearchedBy : Bool → Dialect → Side → List Pos → ℕ → ℕ → Result (List ℕ) Refusal → Type 0
SearchedBy true d who S n budget outcome = Found d who S n budget outcome
SearchedBy false d who S n budget outcome = Searched d who S n budget outcome

-- what each search makes of positions
abbrev pub ByKind : SearchKind → Dialect → Side → List Pos → ℕ → ℕ → Result (List ℕ) Refusal → Type 0
ByKind kind.Solve d who S n budget outcome = Searched d who S n budget outcome
ByKind kind.Find d who S n budget outcome = Found d who S n budget outcome
ByKind kind.Keys d who S n budget outcome = Keyed d who S n budget outcome
ByKind kind.Share d who S n budget outcome = SharedBy d who S n budget outcome

-- what becomes of the bench where a command made this of its text
abbrev pub LeavesSeats : {X : Type 0} → (X → Account) → Command → Ending → List ℕ → Sides X → Sides X → Type 0
LeavesSeats account c NoMemory text entry now = (now ≡ entry) ⊎ HasBegunBy account c text entry now
LeavesSeats account c ending text entry now = calls_seats ending (Some c) ≡ false → now ≡ entry

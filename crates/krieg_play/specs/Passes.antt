-- What no public clause cites: what each call of both sides makes of them and of their game.
use Rattle.std.specs.Prelude.{◌≡◌, ℕ, ◌+◌, ◌<◌, List, [], ◌∷◌, ◌++◌, length, Option, None, Result, Ok, Err}
use Rattle.krieg_board.specs.Pos.{Pos}
use Rattle.krieg_board.specs.declared.men.Side.{Side}
use Rattle.krieg_board.specs.declared.men.Side.TheVariants.{White, Black}
use Rattle.krieg_wordtext.specs.declared.line.Line.{Line}
use Rattle.krieg_umpire.specs.Games.{GameState}
use Rattle.krieg_umpire.specs.declared.verdict.Event.{Event}
use Rattle.krieg_umpire.specs.declared.verdict.Stop.{Stop}
use Rattle.krieg_seats.specs.Accounts.{Account}
use Rattle.krieg_seats.specs.declared.seat.SeatFault.{SeatFault}
use Rattle.krieg_seats.specs.declared.seat.SeatFault.TheVariants as fault
use Rattle.krieg_play.specs.Teams.{Turns, Course, Stays}
use Rattle.krieg_play.specs.Games.{events_of, IsGameFrom}
use Rattle.krieg_play.specs.Played.{Sides, used_up, IsAskedWithin, Courses, lines_of, turns_so_far, last_turns, IsWhole, IsUnderway, IsPlayed}
use Rattle.krieg_play.specs.Broken.{IsUntold, Breaks, IsBroken}
use Rattle.krieg_play.specs.Calls.{once_more, AfterTurn}
use Rattle.krieg_play.specs.declared.outcome.PlayFault.{PlayFault}
use Rattle.krieg_play.specs.declared.outcome.PlayFault.TheVariants.{Seat, NoMemory}
use Rattle.krieg_play.specs.declared.ask_outcome.AskOutcome.{AskOutcome}

-- the fault of a call that met the fault of a seat of that side
abbrev pub fault_of : SeatFault → Side → PlayFault
fault_of fault.Failed who = Seat who
fault_of fault.NoMemory who = NoMemory

-- ---- both sides

-- what both sides did where lines that were due were told, of which these were Black's
abbrev pub AfterBoth : {X : Type 0} → (X → Account) → Result (Unit {0}) PlayFault → List Line → Sides X → Sides X → Sides X → (Side → List Line) → (Side → Turns) → Type 0
AfterBoth account (Ok _) news entry before now lines turns = Courses account None entry now lines turns
AfterBoth account (Err fault) news entry before now lines turns = (b : Breaks account fault news entry now lines turns) × IsUntold fault before now b.white.0

-- telling both sides, from any courses so far of which these lines are due
abbrev pub TellsBoth : {X : Type 0} → (X → Account) → Result (Unit {0}) PlayFault → Sides X → Sides X → (Side → List Line) → (Side → List Line) → Type 0
TellsBoth {X} account r before now lines due =
    (entry : Sides X) (turns : Side → Turns) → Course account Stays entry.white before.white (lines White) (due White) (turns White) →
    Course account Stays entry.black before.black (lines Black) (due Black) (turns Black) → AfterBoth account r (due Black) entry before now lines turns

-- what asking one side makes of both
abbrev pub AfterAsk : {X : Type 0} → (X → Account) → Side → Result AskOutcome SeatFault → Sides X → Sides X → (Side → List Line) → (Side → Turns) → Type 0
AfterAsk account White r entry now lines turns =
    AfterTurn account r entry.white now.white (lines White) (once_more (turns White)) × Course account Stays entry.black now.black (lines Black) [] (turns Black)
AfterAsk account Black r entry now lines turns =
    AfterTurn account r entry.black now.black (lines Black) (once_more (turns Black)) × Course account Stays entry.white now.white (lines White) [] (turns White)

-- asking one side, from any courses so far
abbrev pub AsksOne : {X : Type 0} → (X → Account) → Side → Result AskOutcome SeatFault → Sides X → Sides X → (Side → List Line) → Type 0
AsksOne {X} account who r before now lines =
    (entry : Sides X) (turns : Side → Turns) → Courses account None entry before lines turns → AfterAsk account who r entry now lines turns

-- ---- their game

-- A whole game in which the side to move has said one more try, which is not judged yet: so it was asked last in the state before.
pub record HasTried {X : Type 0} (account : X → Account) (start : Pos) (asks : ℕ) (entry now : Sides X) (game : GameState) (e : Event) : Type 0 where
  pub is_game : IsGameFrom start asks game
  pub on_turn : e.who ≡ game.position.side
  pub white_asks : ℕ
  pub black_asks : ℕ
  pub courses : Courses account None entry now (lines_of start game) (turns_so_far white_asks black_asks (events_of game.log ++ e ∷ []))
  pub asked : IsAskedWithin asks (used_up entry now game) 1 (white_asks + black_asks)
  pub sides_then : Sides X
  pub whole : IsWhole account None start asks entry sides_then game
  pub fewer : used_up entry sides_then game < asks
  pub since : Courses account None sides_then now (lines_of start game) (last_turns game.position.side (lines_of start game) (e ∷ []))

-- what one pass makes of a game under way: it is still under way, with a side that left or none, or it is broken off
abbrev pub AfterPass : {X : Type 0} → (X → Account) → Result (Option Side) PlayFault → Pos → ℕ → Sides X → Sides X → GameState → Type 0
AfterPass account (Ok left) start asks entry now game = IsUnderway account left start asks entry now game
AfterPass account (Err fault) start asks entry now game = IsBroken account start asks entry now fault

-- how many seats stand in both lists
abbrev pub seat_count : {X : Type 0} → Sides X → ℕ
seat_count s = length s.white.seats + length s.black.seats

-- a pass, from any game under way for whose call so many seats stood in both lists
abbrev pub Passes : {X : Type 0} → (X → Account) → Result (Option Side) PlayFault → Pos → ℕ → Sides X → Sides X → GameState → GameState → Type 0
Passes {X} account r start seats before now game game' =
    (asks : ℕ) (entry : Sides X) → IsUnderway account None start asks entry before game → seat_count entry ≡ seats → AfterPass account r start asks entry now game'

-- judging a try, from any game in which it was said
abbrev pub Judges : {X : Type 0} → (X → Account) → Result (Option Side) PlayFault → Pos → Event → Sides X → Sides X → GameState → GameState → Type 0
Judges {X} account r start e before now game game' =
    (asks : ℕ) (entry : Sides X) → HasTried account start asks entry before game e → AfterPass account r start asks entry now game'

-- what a game came to
abbrev pub ComesTo : {X : Type 0} → (X → Account) → Result Stop PlayFault → Pos → ℕ → Sides X → Sides X → GameState → Type 0
ComesTo account (Ok stop) start asks entry now game = IsPlayed account start asks entry now game stop
ComesTo account (Err fault) start asks entry now game = IsBroken account start asks entry now fault

-- playing on, from any game under way for whose call so many seats stood in both lists
abbrev pub PlaysOn : {X : Type 0} → (X → Account) → Result Stop PlayFault → Pos → ℕ → Sides X → Sides X → GameState → GameState → Type 0
PlaysOn {X} account r start seats before now game game' =
    (asks : ℕ) (entry : Sides X) → IsUnderway account None start asks entry before game → seat_count entry ≡ seats →
    ComesTo account r start asks entry now game'

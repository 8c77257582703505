-- What no public clause cites: what each call of a game makes of the seat that follows a guide, of its opponent and of their game.
use Rattle.std.specs.Prelude.{◌≡◌, ℕ, ◌<◌, ◌≤◌, ◌⊎◌, Bool, true, false, List, [], ◌∷◌, ◌++◌, length, Option, Some, None, Result, Ok, Err, ⊤}
use Rattle.krieg_ports.specs.Faults.{Rose}
use Rattle.krieg_board.specs.Men.{other}
use Rattle.krieg_board.specs.Pos.{Pos}
use Rattle.krieg_board.specs.declared.men.Side.{Side}
use Rattle.krieg_board.specs.declared.men.Side.TheVariants.{White, Black}
use Rattle.krieg_wordtext.specs.declared.line.Line.{Line}
use Rattle.krieg_umpire.specs.Hearing.{heard}
use Rattle.krieg_umpire.specs.Games.{GameState}
use Rattle.krieg_umpire.specs.declared.verdict.Event.{Event}
use Rattle.krieg_umpire.specs.declared.verdict.Stop.{Stop}
use Rattle.krieg_seats.specs.Accounts.{Account}
use Rattle.krieg_seats.specs.declared.seat.SeatFault.{SeatFault}
use Rattle.krieg_seats.specs.declared.seat.SeatFault.TheVariants as fault
use Rattle.krieg_play.specs.Calls.{AsksLone}
use Rattle.krieg_play.specs.Games.{events_of, tries_of, IsGameFrom}
use Rattle.krieg_play.specs.Teams.{Serves, Stays}
use Rattle.krieg_play.specs.declared.outcome.PlayFault.{PlayFault}
use Rattle.krieg_play.specs.declared.outcome.PlayFault.TheVariants as play
use Rattle.krieg_play.specs.declared.ask_outcome.AskOutcome.{AskOutcome}
use Rattle.krieg_play.specs.declared.ask_outcome.AskOutcome.TheVariants.{Tried, Relieved, Left}
use Rattle.krieg_robot.specs.Guides.{Guidance}
use Rattle.krieg_robot.specs.Stands.{next_try}
use Rattle.krieg_robot.specs.Followers.{Follower, stand_of, after_asked}
use Rattle.krieg_robot.specs.Leading.{stand_after, AreTried, lines_of, IsWhole, IsLed, IsBroken}
use Rattle.krieg_robot.specs.declared.led.LeadFault.{LeadFault}
use Rattle.krieg_robot.specs.declared.led.LeadFault.TheVariants.{Seat, NoMemory}

-- the fault of a call that met the fault of a side's seat
abbrev pub lead_fault : PlayFault → LeadFault
lead_fault (play.Vacant who) = Seat
lead_fault (play.Seat who) = Seat
lead_fault play.NoMemory = NoMemory

-- the answer of two players, as that of a plan
abbrev pub lead : {A : Type 0} → Result A PlayFault → Result A LeadFault
lead (Ok x) = Ok x
lead (Err fault) = Err (lead_fault fault)

-- ---- one call

-- what asking the seat of the guide makes of it: nobody relieves it, and it never fails
abbrev pub AsksOwn : Result AskOutcome SeatFault → Follower → Follower → Type 0
AsksOwn (Ok (Tried m)) s s' = (next_try (stand_of s) ≡ Some m) × (s' ≡ after_asked s)
AsksOwn (Ok Relieved) s s' = ⊥
AsksOwn (Ok Left) s s' = (next_try (stand_of s) ≡ None) × (s' ≡ after_asked s)
AsksOwn (Err fault.Failed) s s' = ⊥
AsksOwn (Err fault.NoMemory) s s' = ⊤

-- the seat of the guide heard these lines
abbrev pub OwnHears : Follower → Follower → List Line → Type 0
OwnHears s s' own = (s'.guide ≡ s.guide) × (s'.account.heard ≡ s.account.heard ++ own)

-- what telling it these lines makes of it
abbrev pub HearsOwn : List Line → Result (Unit {0}) SeatFault → Follower → Follower → Type 0
HearsOwn lines (Ok _) s s' = OwnHears s s' lines
HearsOwn lines (Err fault.Failed) s s' = ⊥
HearsOwn lines (Err fault.NoMemory) s s' = s' ≡ s

-- what asking the side to move makes of both, where it is the side of the guide or not
abbrev pub TurnAsked : Bool → Result AskOutcome SeatFault → Follower → Follower → Account → Account → Type 0
TurnAsked true r s s' a a' = AsksOwn r s s' × (a' ≡ a)
TurnAsked false r s s' a a' = (s' ≡ s) × AsksLone r a a'

-- the opponent once he heard these lines
abbrev pub hearing : Account → List Line → Account
hearing a lines = record a { heard = a.heard ++ lines }

-- what the opponent's count of faults came to
abbrev pub fault_counts : LeadFault → Account → Account → Type 0
fault_counts Seat a a' = Rose a.faults a'.faults
fault_counts NoMemory a a' = a.faults ≤ a'.faults

-- he heard a front part of these lines, where the call ended with this fault
pub record HearsPart (fault : LeadFault) (lines : List Line) (a a' : Account) : Type 0 where
  pub told : List Line
  pub due : List Line
  pub split : told ++ due ≡ lines
  pub now_is : a' ≡ record a { heard = a.heard ++ told; faults = a'.faults }
  pub counts : fault_counts fault a a'

-- White is told before Black: where a call ends with a fault, Black heard nothing, or White heard all of his lines.
abbrev pub IsToldFirst : Side → Follower → Follower → List Line → Account → Account → List Line → Type 0
IsToldFirst White s s' own a a' theirs = (a' ≡ a) ⊎ OwnHears s s' own
IsToldFirst Black s s' own a a' theirs = (s' ≡ s) ⊎ (a' ≡ hearing a theirs)

-- what telling both makes of them, where the guide is for that side
abbrev pub BothTold : Result (Unit {0}) LeadFault → Side → Follower → Follower → List Line → Account → Account → List Line → Type 0
BothTold (Ok _) side s s' own a a' theirs = OwnHears s s' own × (a' ≡ hearing a theirs)
BothTold (Err fault) side s s' own a a' theirs = HearsPart fault theirs a a' × IsToldFirst side s s' own a a' theirs

-- ---- a game

-- a game under way between a guide and an opponent, whose own seat has heard all of its lines
pub record IsUnderway (g : Guidance) (start : Pos) (asks : ℕ) (entry now : Account) (seat : Follower) (game : GameState) : Type 0 where
  pub whole : IsWhole g None start asks entry now game
  pub guide_is : seat.guide ≡ g
  pub follows : seat.account.heard ≡ heard g.dialect start (events_of game.log) g.side

-- the same where the side to move has said one more try, which is not judged yet: so it was asked last in the state before
pub record HasTried (g : Guidance) (start : Pos) (asks : ℕ) (entry now : Account) (seat : Follower) (game : GameState) (e : Event) : Type 0 where
  pub is_game : IsGameFrom start asks game
  pub on_turn : e.who ≡ game.position.side
  pub guide_is : seat.guide ≡ g
  pub follows : seat.account.heard ≡ heard g.dialect start (events_of game.log) g.side
  pub tried : AreTried g start [] (events_of game.log ++ e ∷ [])
  pub vain : ℕ
  pub serves : Serves (tries_of (other g.side) (events_of game.log ++ e ∷ [])) (lines_of g start game) vain entry now
  pub stays : Stays vain entry now
  pub account_then : Account
  pub whole : IsWhole g None start asks entry account_then game
  pub fewer : length game.log < asks
  pub since : Serves (tries_of (other g.side) (e ∷ [])) [] 0 account_then now
  pub stays_since : Stays 0 account_then now

-- a game in which the side to move left
pub record IsLeft (g : Guidance) (start : Pos) (asks : ℕ) (entry now : Account) (game : GameState) (who : Side) : Type 0 where
  pub whole : IsWhole g (Some who) start asks entry now game
  pub on_turn : who ≡ game.position.side
  pub no_try : who ≡ g.side → next_try (stand_after g start (events_of game.log)) ≡ None

-- the pass in which both were told, or not: nobody left
abbrev pub next_pass : Result (Unit {0}) LeadFault → Result (Option Side) LeadFault
next_pass (Ok _) = Ok None
next_pass (Err fault) = Err fault

-- what one pass makes of a game under way
abbrev pub AfterPass : Result (Option Side) LeadFault → Guidance → Pos → ℕ → Account → Account → Follower → GameState → Type 0
AfterPass (Ok None) g start asks entry now seat game = IsUnderway g start asks entry now seat game
AfterPass (Ok (Some who)) g start asks entry now seat game = IsLeft g start asks entry now game who
AfterPass (Err fault) g start asks entry now seat game = IsBroken g start asks entry now fault

-- a pass, from any game under way
abbrev pub Passes : Result (Option Side) LeadFault → Account → Account → Follower → Follower → GameState → GameState → Type 0
Passes r before now seat seat' game game' =
    (g : Guidance) (start : Pos) (asks : ℕ) (entry : Account) → IsUnderway g start asks entry before seat game → AfterPass r g start asks entry now seat' game'

-- what a game came to
abbrev pub ComesTo : Result Stop LeadFault → Guidance → Pos → ℕ → Account → Account → GameState → Type 0
ComesTo (Ok stop) g start asks entry now game = IsLed g start asks entry now game stop
ComesTo (Err fault) g start asks entry now game = IsBroken g start asks entry now fault

-- playing on, from any game under way
abbrev pub LeadsOn : Result Stop LeadFault → Account → Account → Follower → GameState → GameState → Type 0
LeadsOn r before now seat game game' =
    (g : Guidance) (start : Pos) (asks : ℕ) (entry : Account) → IsUnderway g start asks entry before seat game → ComesTo r g start asks entry now game'

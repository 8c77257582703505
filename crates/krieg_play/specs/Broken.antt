-- A game that was given up, and why no game was played.
use Rattle.std.specs.Prelude.{◌≡◌, ℕ, ◌+◌, ◌<◌, ◌⊎◌, List, [], ◌++◌, length}
use Rattle.krieg_board.specs.Pos.{Pos}
use Rattle.krieg_board.specs.declared.men.Side.{Side}
use Rattle.krieg_board.specs.declared.men.Side.TheVariants.{White, Black}
use Rattle.krieg_wordtext.specs.declared.line.Line.{Line}
use Rattle.krieg_umpire.specs.Games.{GameState}
use Rattle.krieg_seats.specs.Accounts.{Account}
use Rattle.krieg_play.specs.Teams.{Turns, BrokenCourse, Stays, HasFailed, MayBeShort}
use Rattle.krieg_play.specs.Games.{events_of, IsGameFrom}
use Rattle.krieg_play.specs.Played.{Sides, seats_of, used_up, IsAskedWithin, lines_of, turns_so_far, LastAsk, turns_then}
use Rattle.krieg_play.specs.declared.outcome.PlayFault.{PlayFault}
use Rattle.krieg_play.specs.declared.outcome.PlayFault.TheVariants.{Vacant, Seat, NoMemory}

-- what the counts of each side's sitting seat came to
abbrev pub fault_counts : PlayFault → Side → ℕ → Account → Account → Type 0
fault_counts (Seat White) White = HasFailed
fault_counts (Seat Black) Black = HasFailed
fault_counts NoMemory who = MayBeShort
fault_counts _ _ = Stays

-- the seat that failed is the only one of its side's list; a side without a seat begins no game
abbrev pub EndsAt : {X : Type 0} → PlayFault → Sides X → Type 0
EndsAt (Seat who) now = length (seats_of who now) ≡ 1
EndsAt NoMemory now = Unit {0}
EndsAt (Vacant who) now = ⊥

-- White is told before Black: where White's seat failed, Black has heard none of the last news; where Black's seat failed, White
-- has heard all of his lines; and where there was no memory, the one or the other.
abbrev pub IsToldFirst : PlayFault → List Line → List Line → List Line → Type 0
IsToldFirst (Seat White) news white_due black_due = black_due ≡ news
IsToldFirst (Seat Black) news white_due black_due = white_due ≡ []
IsToldFirst _ news white_due black_due = (black_due ≡ news) ⊎ (white_due ≡ [])

-- Where White's seat failed when both sides were told, Black's side is as it was before; and where there was no memory, it is, or White
-- has heard all of his lines.
abbrev pub IsUntold : {X : Type 0} → PlayFault → Sides X → Sides X → List Line → Type 0
IsUntold (Seat White) before now white_due = now.black ≡ before.black
IsUntold (Seat Black) before now white_due = Unit {0}
IsUntold _ before now white_due = (now.black ≡ before.black) ⊎ (white_due ≡ [])

-- What both sides did since they were in some state, where a fault was met: each sitting seat has heard a front part of its side's
-- lines. The news are those of Black's lines that no seat had heard when White was told last.
pub record Breaks {X : Type 0} (account : X → Account) (fault : PlayFault) (news : List Line)
    (entry now : Sides X) (lines : Side → List Line) (turns : Side → Turns) : Type 0 where
  pub white : BrokenCourse account (fault_counts fault White) entry.white now.white (lines White) (turns White)
  pub black : BrokenCourse account (fault_counts fault Black) entry.black now.black (lines Black) (turns Black)
  pub told_first : IsToldFirst fault news white.0 black.0
  pub ends : EndsAt fault now

-- The seats played this game from the start until it was given up: its tries are what each side said, its seats were asked so
-- often, and of its lines each sitting seat heard a front part. The fault was met when the opening words were told, of which Black's
-- are his news, and no seat was asked; or in the turn since the last ask, where Black's news are what his lines had not then.
pub record IsBroken {X : Type 0} (account : X → Account) (start : Pos) (asks : ℕ) (entry now : Sides X) (fault : PlayFault) : Type 0 where
  pub game : GameState
  pub is_game : IsGameFrom start asks game
  pub white_asks : ℕ
  pub black_asks : ℕ
  pub news : List Line
  pub breaks : Breaks account fault news entry now (lines_of start game) (turns_so_far white_asks black_asks (events_of game.log))
  pub asked : IsAskedWithin asks (used_up entry now game) 1 (white_asks + black_asks)
  pub at_once : ((white_asks + black_asks ≡ 0) × (news ≡ lines_of start game Black) × IsUntold fault entry now breaks.white.0)
      ⊎ ((ask : LastAsk account start asks entry game) × (lines_of start ask.game_then Black ++ news ≡ lines_of start game Black)
      × Breaks account fault news ask.sides_then now (lines_of start game) (turns_then ask))

-- Why no game was played to a stop: a side has no seat, White's list being looked at first, and then nothing has changed; or the
-- game was given up.
abbrev pub Refuses : {X : Type 0} → (X → Account) → Pos → ℕ → Sides X → Sides X → PlayFault → Type 0
Refuses account start asks entry now (Vacant White) = (entry.white.seats ≡ []) × (now ≡ entry)
Refuses account start asks entry now (Vacant Black) = (0 < length entry.white.seats) × (entry.black.seats ≡ []) × (now ≡ entry)
Refuses account start asks entry now (Seat who) = IsBroken account start asks entry now (Seat who)
Refuses account start asks entry now NoMemory = IsBroken account start asks entry now NoMemory

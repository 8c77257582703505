-- A game that was played to its stop, from the state in which it is whole.
use Rattle.std.specs.Prelude.{◌≡◌, ℕ, ◌+◌, ◌-◌, ◌<◌, ◌≤◌, ◌⊎◌, true, false, List, [], length, map, Option, Some, None, if◌then◌else◌}
use Rattle.krieg_board.specs.Men.{is_same_side}
use Rattle.krieg_board.specs.Pos.{Pos}
use Rattle.krieg_board.specs.declared.men.Side.{Side}
use Rattle.krieg_board.specs.declared.men.Side.TheVariants.{White, Black}
use Rattle.krieg_moves.specs.Moves.{is_ended}
use Rattle.krieg_words.specs.declared.dialects.Dialect.TheVariants.{Wild16}
use Rattle.krieg_wordtext.specs.declared.line.Line.{Line}
use Rattle.krieg_umpire.specs.Hearing.{heard}
use Rattle.krieg_umpire.specs.Games.{GameState}
use Rattle.krieg_umpire.specs.declared.verdict.Event.{Event}
use Rattle.krieg_umpire.specs.declared.verdict.Stop.{Stop}
use Rattle.krieg_umpire.specs.declared.verdict.Stop.TheVariants.{Ended, Left, AsksUsed}
use Rattle.krieg_seats.specs.Accounts.{Account}
use Rattle.krieg_play.specs.Teams.{Team, team, Turns, turns_since, turns_of, Course, Stays, HasLeft}
use Rattle.krieg_play.specs.Games.{events_of, tries_of, IsGameFrom, TriesOnce}

-- both sides of a bench
pub record Sides (X : Type 0) : Type 0 where
  pub white : Team X
  pub black : Team X

-- both sides with these teams
abbrev pub sides : {X : Type 0} → Team X → Team X → Sides X
sides white black = record { white = white; black = black }

-- the same with what each seat means in its place
abbrev pub seen_team : {X : Type 0} → (X → Account) → Team X → Team Account
seen_team account t = team (map account t.seats) (map account t.out)

abbrev pub seen : {X : Type 0} → (X → Account) → Sides X → Sides Account
seen account s = sides (seen_team account s.white) (seen_team account s.black)

-- the one that belongs to the side
abbrev pub by_side : {A : Type 0} → A → A → Side → A
by_side white black White = white
by_side white black Black = black

-- the seats in the list of that side
abbrev pub seats_of : {X : Type 0} → Side → Sides X → List X
seats_of who s = by_side s.white.seats s.black.seats who

-- how many seats of a side were relieved, and of both sides
abbrev pub relieved : {X : Type 0} → Team X → Team X → ℕ
relieved entry now = length now.out - length entry.out

-- how many seats of both sides were relieved
abbrev pub all_relieved : {X : Type 0} → Sides X → Sides X → ℕ
all_relieved entry now = relieved entry.white now.white + relieved entry.black now.black

-- how many tries were judged and seats relieved
abbrev pub used_up : {X : Type 0} → Sides X → Sides X → GameState → ℕ
used_up entry now game = length game.log + all_relieved entry now

-- All seats together were asked so often: no more often than they may be asked, and no more often than tries were judged and
-- seats relieved, but for so many asks of which neither came.
abbrev pub IsAskedWithin : ℕ → ℕ → ℕ → ℕ → Type 0
IsAskedWithin asks used vain asked = (asked ≤ asks) × (asked ≤ used + vain)

-- ---- a game that goes on, or was played

-- the side that left
abbrev pub leaver : Stop → Option Side
leaver Ended = None
leaver AsksUsed = None
leaver (Left who) = Some who

-- one ask of which no try came and no relief: that of the last seat of a side that left
abbrev pub last_ask : Option Side → ℕ
last_ask None = 0
last_ask (Some who) = 1

-- what the counts of each side's sitting seat came to: they stay, but the leaves of a side that left rose
abbrev pub played_counts : Option Side → Side → ℕ → Account → Account → Type 0
played_counts (Some White) White = HasLeft
played_counts (Some Black) Black = HasLeft
played_counts _ _ = Stays

-- what both sides did since they were in some state: each sitting seat has heard all lines of its side
pub record Courses {X : Type 0} (account : X → Account) (left : Option Side) (entry now : Sides X)
    (lines : Side → List Line) (turns : Side → Turns) : Type 0 where
  pub white : Course account (played_counts left White) entry.white now.white (lines White) [] (turns White)
  pub black : Course account (played_counts left Black) entry.black now.black (lines Black) [] (turns Black)

-- the lines of each side of a game so far
abbrev pub lines_of : Pos → GameState → Side → List Line
lines_of start game who = heard Wild16 start (events_of game.log) who

-- each side's turns since the call began, where they were asked so often and these are the tries
abbrev pub turns_so_far : ℕ → ℕ → List Event → Side → Turns
turns_so_far white_asks black_asks events who = turns_of (by_side white_asks black_asks who) (tries_of who events)

-- A game so far, which is whole: each side has heard its lines of it, its tries are what its seats said, and they were asked so often.
pub record IsWhole {X : Type 0} (account : X → Account) (left : Option Side) (start : Pos) (asks : ℕ)
    (entry now : Sides X) (game : GameState) : Type 0 where
  pub is_game : IsGameFrom start asks game
  pub white_asks : ℕ
  pub black_asks : ℕ
  pub courses : Courses account left entry now (lines_of start game) (turns_so_far white_asks black_asks (events_of game.log))
  pub asked : IsAskedWithin asks (used_up entry now game) (last_ask left) (white_asks + black_asks)

-- The state in which a seat was asked last: the game was whole, and fewer tries were judged and seats relieved than may be. At most
-- one try has been judged since.
pub record LastAsk {X : Type 0} (account : X → Account) (start : Pos) (asks : ℕ) (entry : Sides X) (game : GameState) : Type 0 where
  pub sides_then : Sides X
  pub game_then : GameState
  pub whole : IsWhole account None start asks entry sides_then game_then
  pub fewer : used_up entry sides_then game_then < asks
  pub since : TriesOnce game_then game

-- the side that is asked is asked once
abbrev pub once : Side → Side → ℕ
once asked who = if is_same_side asked who then 1 else 0

-- each side's turns since then, where that side was asked, these lines were heard already and these are the tries
abbrev pub last_turns : Side → (Side → List Line) → List Event → Side → Turns
last_turns asked known tried who = turns_since (known who) (once asked who) (tries_of who tried)

-- the same of the last ask
abbrev pub turns_then : {X : Type 0} {account : X → Account} {start : Pos} {asks : ℕ} {entry : Sides X} {game : GameState} →
    LastAsk account start asks entry game → Side → Turns
turns_then {start = start} ask who =
    last_turns ask.game_then.position.side (lines_of start ask.game_then) ask.since.tried who

-- A whole game in which no seat was asked too late: none was asked; or what both sides did since the last ask is one turn.
pub record IsUnderway {X : Type 0} (account : X → Account) (left : Option Side) (start : Pos) (asks : ℕ)
    (entry now : Sides X) (game : GameState) : Type 0 where
  pub whole : IsWhole account left start asks entry now game
  pub in_time : (whole.white_asks + whole.black_asks ≡ 0)
      ⊎ ((ask : LastAsk account start asks entry game) × Courses account left ask.sides_then now (lines_of start game) (turns_then ask))

-- Why the game stopped in this position, where so many tries were judged and seats relieved: it has ended; or these are as many
-- as may be asked, or more; or the last seat of the side to move left.
abbrev pub StopsBy : {X : Type 0} → Stop → Pos → ℕ → ℕ → Sides X → Type 0
StopsBy Ended p asks used now = is_ended p ≡ true
StopsBy AsksUsed p asks used now = (is_ended p ≡ false) × (asks ≤ used)
StopsBy (Left who) p asks used now = (is_ended p ≡ false) × (used < asks) × (who ≡ p.side) × (length (seats_of who now) ≡ 1)

-- The seats played this game from the start until it stopped.
pub record IsPlayed {X : Type 0} (account : X → Account) (start : Pos) (asks : ℕ)
    (entry now : Sides X) (game : GameState) (stop : Stop) : Type 0 where
  pub played : IsUnderway account (leaver stop) start asks entry now game
  pub stops : StopsBy stop game.position asks (used_up entry now game) now

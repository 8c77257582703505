-- A game in which one side follows a guide, against any opponent.
use Rattle.std.specs.Prelude.{◌≡◌, ℕ, ◌+◌, ◌-◌, slice_get, ◌<◌, ◌≤◌, ◌&&◌, ◌⊎◌, Bool, true, false, List, [], ◌∷◌, ◌++◌, length, filter, Option, Some, None}
use Rattle.krieg_board.specs.Men.{other, is_same_side}
use Rattle.krieg_board.specs.Pos.{Pos}
use Rattle.krieg_board.specs.declared.men.Move.{Move}
use Rattle.krieg_board.specs.declared.men.Side.{Side}
use Rattle.krieg_moves.specs.Moves.{is_ended, is_mate}
use Rattle.krieg_wordtext.specs.declared.line.Line.{Line}
use Rattle.krieg_umpire.specs.Verdicts.{is_done}
use Rattle.krieg_umpire.specs.Hearing.{heard}
use Rattle.krieg_umpire.specs.Games.{GameState}
use Rattle.krieg_umpire.specs.declared.verdict.Event.{Event}
use Rattle.krieg_umpire.specs.declared.verdict.Judged.{Judged}
use Rattle.krieg_umpire.specs.declared.verdict.Stop.{Stop}
use Rattle.krieg_umpire.specs.declared.verdict.Stop.TheVariants.{Ended, Left, AsksUsed}
use Rattle.krieg_seats.specs.Accounts.{Account}
use Rattle.krieg_play.specs.Games.{events_of, tries_of, IsGameFrom, TriesOnce}
use Rattle.krieg_play.specs.Played.{leaver, played_counts, once}
use Rattle.krieg_play.specs.Teams.{Serves, HasFailed, MayBeShort}
use Rattle.krieg_robot.specs.Guides.{Guidance}
use Rattle.krieg_robot.specs.Stands.{Stand, next_try}
use Rattle.krieg_robot.specs.Followers.{follow_guide}
use Rattle.krieg_robot.specs.declared.led.Led.{Led}
use Rattle.krieg_robot.specs.declared.led.LeadFault.{LeadFault}
use Rattle.krieg_robot.specs.declared.led.LeadFault.TheVariants.{Seat, NoMemory}

-- ---- the side of the guide

-- where it stands once it heard its lines of all tries
abbrev pub stand_after : Guidance → Pos → List Event → Stand
stand_after g start events = follow_guide g (heard g.dialect start events g.side)

-- a try of its own is that of the node at which it stands by the lines of the tries before
abbrev pub IsTried : Guidance → Pos → List Event → Event → Type 0
IsTried g start before e = e.who ≡ g.side → next_try (stand_after g start before) ≡ Some e.mv

-- so is each of these tries, where some came before them
abbrev pub AreTried : Guidance → Pos → List Event → List Event → Type 0
AreTried g start before [] = Unit {0}
AreTried g start before (e ∷ es) = IsTried g start before e × AreTried g start (before ++ e ∷ []) es

-- a try of that side that was done: one of its moves
abbrev pub is_own_move : Side → Judged → Bool
is_own_move who j = is_same_side j.event.who who && is_done j.verdict

-- how many moves the side has made
abbrev pub own_moves : Side → List Judged → ℕ
own_moves who log = length (filter (is_own_move who) log)

-- ---- a game that stopped

-- Why the game stopped: it has ended; or as many tries were judged as may be asked for; or the side to move left, and the side of the
-- guide does so only where its plan has no try.
abbrev pub LeadStops : Guidance → Pos → ℕ → GameState → Stop → Type 0
LeadStops g start asks game Ended = is_ended game.position ≡ true
LeadStops g start asks game AsksUsed = (is_ended game.position ≡ false) × (asks ≤ length game.log)
LeadStops g start asks game (Left who) = (is_ended game.position ≡ false) × (length game.log < asks) × (who ≡ game.position.side)
    × (who ≡ g.side → next_try (stand_after g start (events_of game.log)) ≡ None)

-- the lines of the opponent in a game so far
abbrev pub lines_of : Guidance → Pos → GameState → List Line
lines_of g start game = heard g.dialect start (events_of game.log) (other g.side)

-- A game of the guide and an opponent, which is whole: the side of the guide tried what its plan says, and the opponent what he said; he
-- heard his lines, and was asked once for each of his tries, and once more where he left.
pub record IsWhole (g : Guidance) (left : Option Side) (start : Pos) (asks : ℕ) (entry now : Account) (game : GameState) : Type 0 where
  pub is_game : IsGameFrom start asks game
  pub tried : AreTried g start [] (events_of game.log)
  pub vain : ℕ
  pub serves : Serves (tries_of (other g.side) (events_of game.log)) (lines_of g start game) vain entry now
  pub counts : played_counts left (other g.side) vain entry now

-- they played this game from the start until it stopped
pub record IsLed (g : Guidance) (start : Pos) (asks : ℕ) (entry now : Account) (game : GameState) (stop : Stop) : Type 0 where
  pub whole : IsWhole g (leaver stop) start asks entry now game
  pub stops : LeadStops g start asks game stop

-- ---- a game that was given up

-- what the opponent's counts came to then
abbrev pub broken_counts : LeadFault → ℕ → Account → Account → Type 0
broken_counts Seat = HasFailed
broken_counts NoMemory = MayBeShort

-- What the opponent did since he was in some state, where he had heard the known lines: he made these tries, heard a front part of his
-- other lines, and was asked in vain at most once.
pub record Breaks (fault : LeadFault) (tries : List Move) (known lines : List Line) (entry now : Account) : Type 0 where
  pub told : List Line
  pub due : List Line
  pub front : known ++ (told ++ due) ≡ lines
  pub vain : ℕ
  pub serves : Serves tries told vain entry now
  pub counts : broken_counts fault vain entry now

-- the state in which a side was asked last: the game was whole, and fewer tries were judged than may be
pub record LastAsk (g : Guidance) (start : Pos) (asks : ℕ) (entry : Account) (game : GameState) : Type 0 where
  pub account_then : Account
  pub game_then : GameState
  pub whole : IsWhole g None start asks entry account_then game_then
  pub fewer : length game_then.log < asks
  pub since : TriesOnce game_then game

-- They played this game from the start until it was given up: when the opening words were told, and nobody was asked; or in the turn
-- since the last ask, which asked the opponent where it was his turn.
pub record IsBroken (g : Guidance) (start : Pos) (asks : ℕ) (entry now : Account) (fault : LeadFault) : Type 0 where
  pub game : GameState
  pub is_game : IsGameFrom start asks game
  pub tried : AreTried g start [] (events_of game.log)
  pub breaks : Breaks fault (tries_of (other g.side) (events_of game.log)) [] (lines_of g start game) entry now
  pub at_once : ((game.log ≡ []) × (breaks.vain ≡ 0))
      ⊎ ((ask : LastAsk g start asks entry game)
      × (since : Breaks fault (tries_of (other g.side) ask.since.tried) (lines_of g start ask.game_then) (lines_of g start game)
      ask.account_then now)
      × (length (tries_of (other g.side) ask.since.tried) + since.vain ≡ once ask.game_then.position.side (other g.side)))

-- ---- from a listed position

-- what leading from the listed position with that number came to, where the game stopped
pub record LedFrom (g : Guidance) (number asks : ℕ) (entry now : Account) (led : Led) : Type 0 where
  pub start : Pos
  pub listed : slice_get g.list (number - 1) ≡ Some start
  pub is_led : IsLed g start asks entry now led.game led.stop

-- the same where the game was given up
pub record BrokenFrom (g : Guidance) (number asks : ℕ) (entry now : Account) (fault : LeadFault) : Type 0 where
  pub start : Pos
  pub listed : slice_get g.list (number - 1) ≡ Some start
  pub is_broken : IsBroken g start asks entry now fault

-- What a plan that mates makes of a game that it led: its side does not leave and makes at most as many moves as the guide claims, and
-- where the game has ended the opponent is mated.
pub record IsWon (g : Guidance) (game : GameState) (stop : Stop) : Type 0 where
  pub stays : stop ≡ Left g.side → ⊥
  pub few : own_moves g.side game.log ≤ g.worst
  pub mates : stop ≡ Ended → (is_mate game.position ≡ true) × (game.position.side ≡ other g.side)

-- A game whose players are asked by turns: its tries, and whose they were.
use Rattle.std.specs.Prelude.{◌≡◌, ◌+◌, ◌≤◌, ℕ, List, [], ◌∷◌, ◌++◌, length, map, Option, Some, None, if◌then◌else◌}
use Rattle.std.specs.List.{filter_map}
use Rattle.krieg_board.specs.Men.{is_same_side}
use Rattle.krieg_board.specs.Pos.{Pos}
use Rattle.krieg_board.specs.declared.men.Side.{Side}
use Rattle.krieg_board.specs.declared.men.Move.{Move}
use Rattle.krieg_umpire.specs.Verdicts.{next}
use Rattle.krieg_umpire.specs.Games.{GameState, judge, last}
use Rattle.krieg_umpire.specs.declared.verdict.Event.{Event}
use Rattle.krieg_umpire.specs.declared.verdict.Judged.{Judged}

-- the try that was judged
abbrev pub event_of : Judged → Event
event_of j = j.event

-- the tries of a log, without their verdicts
abbrev pub events_of : List Judged → List Event
events_of log = map event_of log

-- the move of the try, where it is that side's
abbrev pub try_of : Side → Event → Option Move
try_of who e = if is_same_side e.who who then Some e.mv else None

-- the moves that a side tried, in order
abbrev pub tries_of : Side → List Event → List Move
tries_of who events = filter_map (try_of who) events

-- each try came from the side to move
abbrev pub AreOnTurn : Pos → List Event → Type 0
AreOnTurn p [] = Unit {0}
AreOnTurn p (e ∷ es) = (e.who ≡ p.side) × AreOnTurn (next p e.who e.mv) es

-- A game so far from this start, in which there are places for so many tries: its log is the judgement of its tries, each of
-- them came from the side to move, and it stands where they lead to.
pub record IsGameFrom (start : Pos) (asks : ℕ) (game : GameState) : Type 0 where
  pub log : game.log ≡ judge start (events_of game.log)
  pub position : game.position ≡ last start (events_of game.log)
  pub on_turn : AreOnTurn start (events_of game.log)
  pub places : game.spare + length game.log ≡ asks

-- at most one try was judged between two states of a game
pub record TriesOnce (before now : GameState) : Type 0 where
  pub tried : List Event
  pub at_most_one : length tried ≤ 1
  pub events : events_of now.log ≡ events_of before.log ++ tried

-- A session as contracts see it.
use Rattle.std.specs.Prelude.{List, Option}
use Rattle.krieg_board.specs.Pos.{Pos}
use Rattle.krieg_words.specs.declared.dialects.Dialect.{Dialect}
use Rattle.krieg_umpire.specs.declared.verdict.Event.{Event}
use Rattle.krieg_umpire.specs.declared.verdict.Stop.{Stop}
use Rattle.krieg_umpire.specs.declared.session.Session.{Session}

-- the umpire's dialect, the position in which the game began, the tries of both players in their order, and why it stopped, where that is told
pub record SessionState : Type 0 where
  pub dialect : Dialect
  pub start : Pos
  pub events : List Event
  pub stop : Option Stop

-- what a session is to contracts
abbrev pub state_of : Session → SessionState
state_of s = record { dialect = s.dialect; start = s.start; events = s.events.items; stop = s.stop }

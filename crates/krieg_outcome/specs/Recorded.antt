-- The session of a game that was played or led.
use Rattle.std.specs.Prelude.{Some}
use Rattle.krieg_board.specs.Pos.{Pos}
use Rattle.krieg_words.specs.declared.dialects.Dialect.{Dialect}
use Rattle.krieg_umpire.specs.Games.{GameState}
use Rattle.krieg_umpire.specs.declared.verdict.Stop.{Stop}
use Rattle.krieg_umpire.specs.Sessions.{SessionState}
use Rattle.krieg_play.specs.Games.{events_of}

-- the session in that dialect of a game from that start, which stopped so
abbrev pub session_of : Dialect → Pos → GameState → Stop → SessionState
session_of d start game stop = record { dialect = d; start = start; events = events_of game.log; stop = Some stop }

-- A session as the record of its moves, and a record as a session.
use Rattle.std.specs.Prelude.{ℕ, List, [], ◌∷◌, None, if◌then◌else◌}
use Rattle.krieg_board.specs.Pos.{Pos}
use Rattle.krieg_board.specs.declared.men.Move.{Move}
use Rattle.krieg_moves.specs.After.{after}
use Rattle.krieg_words.specs.declared.dialects.Dialect.TheVariants.{Wild16}
use Rattle.krieg_umpire.specs.declared.verdict.Event.{Event}
use Rattle.krieg_umpire.specs.declared.verdict.Judged.{Judged}
use Rattle.krieg_umpire.specs.Verdicts.{is_done}
use Rattle.krieg_umpire.specs.Games.{judge}
use Rattle.krieg_record.specs.Records.{RecordState}
use Rattle.krieg_record.specs.RecordText.{record_text}
use Rattle.krieg_umpire.specs.Sessions.{SessionState}
use Rattle.krieg_umpire.specs.SessionText.{session_text}

-- the tries that were done
abbrev pub done_events : List Judged → List Event
done_events [] = []
done_events (j ∷ js) = if is_done j.verdict then j.event ∷ done_events js else done_events js

-- their moves
abbrev pub done_moves : List Judged → List Move
done_moves [] = []
done_moves (j ∷ js) = if is_done j.verdict then j.event.mv ∷ done_moves js else done_moves js

-- the record of a session: where it starts, and the moves of its tries that were done
abbrev pub record_of : SessionState → RecordState
record_of s = record { start = s.start; moves = done_moves (judge s.start s.events) }

-- each move as a try by the side to move
abbrev pub tries_of : Pos → List Move → List Event
tries_of p [] = []
tries_of p (m ∷ ms) = record { who = p.side; mv = m } ∷ tries_of (after p m) ms

-- the session of a record: in wild16, with no word on why it stopped
abbrev pub session_of : RecordState → SessionState
session_of r = record { dialect = Wild16; start = r.start; events = tries_of r.start r.moves; stop = None }

-- what `san` writes of a session, and `unsan` of a record
abbrev pub san_of : SessionState → List ℕ
san_of s = record_text (record_of s)

-- the text of the session of a record
abbrev pub unsan_of : RecordState → List ℕ
unsan_of r = session_text (session_of r)

-- The one written form of a session.
use Rattle.std.specs.Prelude.{ℕ, List, [], ◌∷◌, ◌++◌, codes, Option, Some, None, map}
use Rattle.krieg_board.specs.declared.men.Side.TheVariants.{White, Black}
use Rattle.krieg_fen.specs.FenText.{position_text}
use Rattle.krieg_fen.specs.MoveText.{move_text}
use Rattle.krieg_text.specs.Writing.{Pieces, alone, put_lines}
use Rattle.krieg_wordtext.specs.Versions.{version_lines}
use Rattle.krieg_umpire.specs.declared.verdict.Event.{Event}
use Rattle.krieg_umpire.specs.declared.verdict.Stop.{Stop}
use Rattle.krieg_umpire.specs.declared.verdict.Stop.TheVariants.{Ended, Left, AsksUsed}
use Rattle.krieg_umpire.specs.Sessions.{SessionState}
use Rattle.krieg_fen.specs.Forms.{side_mark}

-- a player's mark and his move
abbrev pub event_line : Event → Pieces
event_line e = side_mark e.who ∷ move_text e.mv ∷ []

-- the last line, which says why the game stopped, where that is told
abbrev pub last_text : Option Stop → List ℕ
last_text None = codes "end"
last_text (Some Ended) = codes "end over"
last_text (Some (Left White)) = codes "end left w"
last_text (Some (Left Black)) = codes "end left b"
last_text (Some AsksUsed) = codes "end asks"

-- version and dialect, start, a line for each try, the last line
abbrev pub session_lines : SessionState → List Pieces
session_lines s =
    map alone (version_lines (codes "krieg session ") s.dialect)
    ++ ((codes "start " ∷ position_text s.start ∷ [])
    ∷ (map event_line s.events ++ (alone (last_text s.stop) ∷ [])))

-- a line feed stands after every line
unfoldable pub session_text : SessionState → List ℕ
session_text s = put_lines [] (session_lines s)

-- Which lines spell a session, and which a start: the tables of the formats, without a reader.
use Rattle.std.specs.Prelude.{◌≡◌, ℕ, List, [], ◌++◌, codes, Option, Ok}
use Rattle.krieg_board.specs.Pos.{Pos}
use Rattle.krieg_text.specs.FirstBad.{Has}
use Rattle.krieg_fen.specs.Forms.{position_form, start_form, side_mark}
use Rattle.krieg_text.specs.Languages.{Language, One, Many, Any, Behind, UpToLast, ◌⨾◌}
use Rattle.krieg_fen.specs.MoveText.{move_text, IsOnBoard}
use Rattle.krieg_fen.specs.Spelling.{Spells}
use Rattle.krieg_wordtext.specs.Versions.{SpellVersion}
use Rattle.krieg_umpire.specs.declared.verdict.Event.{Event}
use Rattle.krieg_umpire.specs.declared.verdict.Stop.{Stop}
use Rattle.krieg_umpire.specs.Sessions.{SessionState}
use Rattle.krieg_umpire.specs.SessionReading.{try_form}
use Rattle.krieg_umpire.specs.SessionText.{last_text}

-- a player's mark and a move of the board
abbrev pub SpellsTry : List ℕ → Event → Type 0
SpellsTry line e = (line ≡ side_mark e.who ++ move_text e.mv) × IsOnBoard e.mv

-- version and dialect, start, a line for each try, the last line: only the version of wild16 and the start have more than one spelling
abbrev pub SpellsSession : SessionState → Language
SpellsSession s =
    (λ ls. SpellVersion (codes "krieg session ") ls s.dialect)
    ⨾ One (Behind (codes "start ") (λ text. Spells text s.start))
    ⨾ UpToLast (λ before line e. SpellsTry line e) (λ before line stop. line ≡ last_text stop) [] s.events s.stop

-- The grammar: the version and the dialect, the start, valid or not, tries, and a last line.
abbrev pub SessionGrammar : Language
SessionGrammar =
    Any (λ d. (λ ls. SpellVersion (codes "krieg session ") ls d)
    ⨾ One (Has start_form)
    ⨾ Many (λ line. (e : Event) × (try_form line ≡ Ok e))
    ⨾ One (λ line. (stop : Option Stop) × (line ≡ last_text stop)))

-- one line, which spells the position
abbrev pub SpellsStart : Pos → Language
SpellsStart p = One (λ line. Spells line p)

-- one line, which is the text of a position, valid or not
abbrev pub StartGrammar : Language
StartGrammar = One (Has position_form)

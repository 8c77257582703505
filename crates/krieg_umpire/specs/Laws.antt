-- What holds of every game, session and record: what a player hears, his sheet, and what is read again.
use Rattle.std.specs.Prelude.{◌≡◌, List, Ok}
use Rattle.std.specs.List.{All}
use Rattle.krieg_board.specs.Pos.{Pos}
use Rattle.krieg_board.specs.declared.men.Side.{Side}
use Rattle.krieg_board.specs.Validity.{IsValid}
use Rattle.krieg_text.specs.Lines.{lines}
use Rattle.krieg_text.specs.Reading.{whole}
use Rattle.krieg_fen.specs.MoveText.{IsOnBoard}
use Rattle.krieg_words.specs.declared.dialects.Dialect.{Dialect}
use Rattle.krieg_record.specs.Records.{RecordState, AreLegal, IsRecord}
use Rattle.krieg_record.specs.RecordReading.{record_at}
use Rattle.krieg_sheet.specs.Games.{IsConsistent}
use Rattle.krieg_sheet.specs.Places.{IsSheet}
use Rattle.krieg_sheet.specs.SheetReading.{sheet_at}
use Rattle.krieg_sheet.specs.SheetText.{sheet_text}
use Rattle.krieg_umpire.specs.declared.verdict.Event.{Event}
use Rattle.krieg_umpire.specs.Hearing.{heard, strip}
use Rattle.krieg_umpire.specs.Games.{last, judge}
use Rattle.krieg_umpire.specs.Sessions.{SessionState}
use Rattle.krieg_umpire.specs.SessionReading.{session_at}
use Rattle.krieg_umpire.specs.SessionText.{session_text}
use Rattle.krieg_umpire.specs.Telling.{sheet_of, lines_of, all_lines}
use Rattle.krieg_umpire.specs.Scores.{done_events, done_moves, record_of, session_of, tries_of, san_of, unsan_of}

-- a player hears of the other's tries only those that were done: without the rest he hears the same
abbrev pub HearsNoMore : Type 0
HearsNoMore = (d : Dialect) (p : Pos) (events : List Event) (who : Side) → heard d p events who ≡ heard d p (strip p events who) who

-- of the lines of both players, those of one are what he hears, in their order
abbrev pub LinesAreHeard : Type 0
LinesAreHeard = (d : Dialect) (p : Pos) (events : List Event) (who : Side) → lines_of who (all_lines d p events) ≡ heard d p events who

-- a try is a move between two squares of the board
abbrev pub AreTries : List Event → Type 0
AreTries events = All (λ e. IsOnBoard e.mv) events

-- a session begins in a valid position, and each of its tries is a move between two squares of the board
pub record IsGame (s : SessionState) : Type 0 where
  pub valid : IsValid s.start
  pub tries : AreTries s.events

-- A player's sheet of a game from a valid position is a sheet: its words can be said and fit the dialect,
-- and its entries are in place.
abbrev pub SheetsAreInPlace : Type 0
SheetsAreInPlace = (d : Dialect) (p : Pos) (events : List Event) (who : Side) → IsValid p → AreTries events → IsSheet (sheet_of d p events who)

-- the position in which the game stands is one of those that the player must reckon with
abbrev pub LastIsConsistent : Type 0
LastIsConsistent = (d : Dialect) (p : Pos) (events : List Event) (who : Side) → IsConsistent (sheet_of d p events who) (last p events)

-- a written session spells that session
abbrev pub SessionsAreReadBack : Type 0
SessionsAreReadBack = (s : SessionState) → IsGame s → whole session_at (lines (session_text s)) ≡ Ok s

-- a written sheet of a game spells that sheet
abbrev pub SheetsAreReadBack : Type 0
SheetsAreReadBack = (d : Dialect) (p : Pos) (events : List Event) (who : Side) → IsValid p → AreTries events →
    whole sheet_at (lines (sheet_text (sheet_of d p events who))) ≡ Ok (sheet_of d p events who)

-- the moves of the tries that were done are legal where they stand
abbrev pub DoneAreLegal : Type 0
DoneAreLegal = (p : Pos) (events : List Event) → AreLegal p (done_moves (judge p events))

-- as tries by the side to move they are these tries
abbrev pub DoneAreTries : Type 0
DoneAreTries = (p : Pos) (events : List Event) → tries_of p (done_moves (judge p events)) ≡ done_events (judge p events)

-- what `san` writes is read as the record of the session
abbrev pub SansAreReadBack : Type 0
SansAreReadBack = (s : SessionState) → IsValid s.start → whole record_at (lines (san_of s)) ≡ Ok (record_of s)

-- what `unsan` writes is read as the session of the record
abbrev pub UnsansAreReadBack : Type 0
UnsansAreReadBack = (r : RecordState) → IsRecord r → whole session_at (lines (unsan_of r)) ≡ Ok (session_of r)

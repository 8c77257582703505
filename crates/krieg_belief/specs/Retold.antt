-- Of the parts of the work: a hidden game try by try, from the sheet's entries and the opponent's moves.
use Rattle.std.specs.Prelude.{List, [], ◌∷◌}
use Rattle.krieg_board.specs.Men.{other}
use Rattle.krieg_board.specs.declared.men.Side.{Side}
use Rattle.krieg_board.specs.declared.men.Move.{Move}
use Rattle.krieg_wordtext.specs.declared.line.Line.{Line}
use Rattle.krieg_wordtext.specs.declared.line.Line.TheVariants.{Opens, Illegal, Done, Heard, Early, Over}
use Rattle.krieg_umpire.specs.declared.verdict.Event.{Event}
use Rattle.krieg_sheet.specs.Sheets.{SheetState}
use Rattle.krieg_belief.specs.Explained.{ShownState}
use Rattle.krieg_belief.specs.Tales.{Tale}

-- the tries of a game that gives these entries: the player's stand in them, and each line that he heard of the opponent is the next of the opponent's moves
abbrev pub events_by : Side → List Line → List Move → List Event
events_by who [] rs = []
events_by who (Opens w ∷ ls) rs = events_by who ls rs
events_by who (Illegal m ∷ ls) rs = record { who = who; mv = m } ∷ events_by who ls rs
events_by who (Done m w ∷ ls) rs = record { who = who; mv = m } ∷ events_by who ls rs
events_by who (Heard w ∷ ls) [] = events_by who ls []
events_by who (Heard w ∷ ls) (r ∷ rs) = record { who = other who; mv = r } ∷ events_by who ls rs
events_by who (Early m ∷ ls) rs = record { who = who; mv = m } ∷ events_by who ls rs
events_by who (Over m ∷ ls) rs = record { who = who; mv = m } ∷ events_by who ls rs

-- the game with the opponent's moves of a tale
abbrev pub shown_of : SheetState → Tale → ShownState
shown_of s y = record { last = y.stands; start = y.start; events = events_by s.side s.entries y.replies }

-- Which hidden game explains a position that a sheet leaves open, and which of them is the least.
use Rattle.std.specs.Prelude.{◌≡◌, true, false, List, ◌∷◌, map}
use Rattle.std.specs.List.{All, Contains}
use Rattle.std.specs.Ordering.{is_le, then_cmp, on}
use Rattle.std.specs.Cmp.Lexicographic.{slice_cmp}
use Rattle.std.specs.declared.cmp.Ordering.{Ordering}
use Rattle.krieg_board.specs.Men.{other, is_same_side}
use Rattle.krieg_board.specs.Order.{move_cmp}
use Rattle.krieg_board.specs.Pos.{Pos}
use Rattle.krieg_board.specs.declared.men.Side.{Side}
use Rattle.krieg_board.specs.declared.men.Move.{Move}
use Rattle.krieg_words.specs.WordsOfMoves.{opening}
use Rattle.krieg_words.specs.ToldWords.{told}
use Rattle.krieg_wordtext.specs.declared.line.Line.TheVariants.{Opens}
use Rattle.krieg_umpire.specs.Verdicts.{is_done}
use Rattle.krieg_umpire.specs.Games.{judge, last}
use Rattle.krieg_umpire.specs.Hearing.{heard}
use Rattle.krieg_umpire.specs.declared.verdict.Event.{Event}
use Rattle.krieg_umpire.specs.declared.verdict.Judged.{Judged}
use Rattle.krieg_play.specs.Games.{tries_of}
use Rattle.krieg_sheet.specs.Sheets.{SheetState}
use Rattle.krieg_sheet.specs.Games.{OpensWith}
use Rattle.krieg_pack.specs.Order.{position_cmp}
use Rattle.krieg_belief.specs.Possible.{IsPossible}
use Rattle.krieg_belief.specs.declared.shown.Shown.{Shown}

-- a hidden game: the position in which it stands, where it began, and the tries of both players
pub record ShownState : Type 0 where
  pub last : Pos
  pub start : Pos
  pub events : List Event

-- what a hidden game is to contracts
abbrev pub state_of : Shown → ShownState
state_of x = record { last = x.last; start = x.start; events = x.events.items }

-- where a game stands
abbrev pub last_of : ShownState → Pos
last_of x = x.last

-- the opponent tried only what was done
abbrev pub is_shown : Side → Judged → Type 0
is_shown who j = is_same_side j.event.who who ≡ false → is_done j.verdict ≡ true

-- the game begins in a listed position with the opening words, gives what the sheet says, and stands in its last position
pub record Explains (s : SheetState) (x : ShownState) : Type 0 where
  pub is_listed : Contains s.list x.start
  pub opens : OpensWith s.dialect s.opens x.start
  pub hears : heard s.dialect x.start x.events s.side ≡ Opens (told s.dialect (opening x.start)) ∷ s.entries
  pub all_done : All (is_shown s.side) (judge x.start x.events)
  pub ends : x.last ≡ last x.start x.events

-- the opponent's moves, for a player of that side
abbrev pub their_moves : Side → ShownState → List Move
their_moves who x = tries_of (other who) x.events

-- by the start, then by the opponent's moves, the first that differs
abbrev pub shown_cmp : Side → ShownState → ShownState → Ordering
shown_cmp who = then_cmp (on (λ (x : ShownState). x.start) position_cmp) (on (their_moves who) (slice_cmp move_cmp))

-- it explains its last position, and none that does so stands before it
pub record IsLeast (s : SheetState) (x : ShownState) : Type 0 where
  pub explains : Explains s x
  pub least : (y : ShownState) → Explains s y → y.last ≡ x.last → is_le (shown_cmp s.side x y) ≡ true

-- the least game for each position that is possible, in the order of these
pub record AreShown (s : SheetState) (xs : List ShownState) : Type 0 where
  pub possible : IsPossible s (map last_of xs)
  pub least : All (IsLeast s) xs

-- What holds of every sheet: its positions have one hand, its words can be told, its entries are in place.
use Rattle.std.specs.Prelude.{◌≡◌, Bool, true, List, Option, Some, None, Result, Ok, Err}
use Rattle.std.specs.List.{All}
use Rattle.krieg_board.specs.Pos.{Pos}
use Rattle.krieg_board.specs.Validity.{IsValid}
use Rattle.krieg_board.specs.declared.men.Side.{Side}
use Rattle.krieg_words.specs.Words.{Said, IsSaid}
use Rattle.krieg_words.specs.ToldWords.{Fits}
use Rattle.krieg_wordtext.specs.Line.{LineFits, IsLine}
use Rattle.krieg_words.specs.declared.dialects.Dialect.{Dialect}
use Rattle.krieg_wordtext.specs.declared.line.Line.{Line}
use Rattle.krieg_sheet.specs.declared.sheet.SheetFault.{SheetFault}
use Rattle.krieg_sheet.specs.Sheets.{SheetState, new_sheet}
use Rattle.krieg_sheet.specs.Turns.{first_turn, over_at_first, are_in_place, turn_of, is_over}
use Rattle.krieg_sheet.specs.Lists.{list_fault}

-- opening words, where there are any, that the dialect can tell
abbrev pub OpeningFits : Dialect → Option Said → Type 0
OpeningFits d None = Unit {0}
OpeningFits d (Some w) = Fits d w

-- opening words, where there are any, that can be said at all
abbrev pub IsOpening : Option Said → Type 0
IsOpening None = Unit {0}
IsOpening (Some w) = IsSaid w

-- a line that the dialect can tell
abbrev pub IsTold : Dialect → Line → Type 0
IsTold d l = IsLine l × LineFits d l

-- the list has no fault, its positions are valid, the words can be told, and each entry is in place
pub record IsSheet (s : SheetState) : Type 0 where
  pub listed : list_fault s.side s.list ≡ None
  pub valid : All IsValid s.list
  pub fits : OpeningFits s.dialect s.opens
  pub opening : IsOpening s.opens
  pub told : All (IsTold s.dialect) s.entries
  pub in_place : are_in_place s.side (first_turn s.list) (over_at_first s.opens) s.entries ≡ true

-- a sheet, with whose turn it is after it and whether the game is over
pub record IsKept (s : SheetState) (turn : Side) (over : Bool) : Type 0 where
  pub sheet : IsSheet s
  pub turn_is : turn ≡ turn_of s
  pub over_is : over ≡ is_over s

-- the sheet, where nothing is wrong
abbrev pub unless : SheetState → Option SheetFault → Result SheetState SheetFault
unless s None = Ok s
unless s (Some fault) = Err fault

-- a sheet without entries, or the fault of its list
abbrev pub begun : Dialect → Side → List Pos → Option Said → Result SheetState SheetFault
begun d who list opens = unless (new_sheet d who list opens) (list_fault who list)

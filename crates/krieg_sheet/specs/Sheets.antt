-- A player's sheet as contracts see it.
use Rattle.std.specs.Prelude.{List, [], ◌∷◌, ◌++◌, Option}
use Rattle.krieg_board.specs.Pos.{Pos}
use Rattle.krieg_board.specs.declared.men.Side.{Side}
use Rattle.krieg_words.specs.Words.{Said}
use Rattle.krieg_words.specs.declared.dialects.Dialect.{Dialect}
use Rattle.krieg_wordtext.specs.declared.line.Line.{Line}

-- the umpire's dialect, the player's side, the positions of which the game began in one, the opening words where they were heard, and the lines that the player heard then
pub record SheetState : Type 0 where
  pub dialect : Dialect
  pub side : Side
  pub list : List Pos
  pub opens : Option Said
  pub entries : List Line

-- a sheet without entries
abbrev pub new_sheet : Dialect → Side → List Pos → Option Said → SheetState
new_sheet d who list opens = record { dialect = d; side = who; list = list; opens = opens; entries = [] }

-- the sheet with one entry more
abbrev pub entered : SheetState → Line → SheetState
entered s l = record { dialect = s.dialect; side = s.side; list = s.list; opens = s.opens; entries = s.entries ++ l ∷ [] }

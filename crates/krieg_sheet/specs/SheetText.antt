-- The one written form of a sheet, line by line.
use Rattle.std.specs.Prelude.{ℕ, List, [], ◌∷◌, ◌++◌, codes, Option, Some, None, map, length}
use Rattle.krieg_board.specs.Pos.{Pos}
use Rattle.krieg_board.specs.declared.men.Side.{Side}
use Rattle.krieg_fen.specs.ListText.{position_line}
use Rattle.krieg_fen.specs.ListText as list
use Rattle.krieg_text.specs.Writing.{Pieces, alone, put_lines}
use Rattle.krieg_words.specs.Words.{Said}
use Rattle.krieg_wordtext.specs.Line.{line_text}
use Rattle.krieg_wordtext.specs.Versions.{version_lines}
use Rattle.krieg_words.specs.declared.dialects.Dialect.{Dialect}
use Rattle.krieg_wordtext.specs.declared.line.Line.{Line}
use Rattle.krieg_wordtext.specs.declared.line.Line.TheVariants.{Opens}
use Rattle.krieg_sheet.specs.Sheets.{SheetState, new_sheet}

-- the lines before the positions: version and dialect, side, number of positions
abbrev pub head_lines : Dialect → Side → ℕ → List Pieces
head_lines d who n = map alone (version_lines (codes "krieg sheet ") d) ++ list.head_lines who n

-- the line of the opening words, where there are any
abbrev pub opens_lines : Dialect → Option Said → List (List ℕ)
opens_lines d None = []
opens_lines d (Some w) = line_text d (Opens w) ∷ []

-- the line of what was heard
abbrev pub entry_line : Dialect → Line → Pieces
entry_line d l = alone (line_text d l)

-- the last line
abbrev pub end_line : Pieces
end_line = alone (codes "end")

-- each position and each entry has a line of its own, and the last line is `end`
abbrev pub sheet_lines : SheetState → List Pieces
sheet_lines s =
    head_lines s.dialect s.side (length s.list)
    ++ (map position_line s.list
    ++ (map alone (opens_lines s.dialect s.opens)
    ++ (map (entry_line s.dialect) s.entries ++ (end_line ∷ []))))

-- a line feed stands after every line
unfoldable pub sheet_text : SheetState → List ℕ
sheet_text s = put_lines [] (sheet_lines s)

-- a list alone, of any length: the text of a sheet that lists it and says no more
abbrev pub answer_text : Dialect → Side → List Pos → List ℕ
answer_text d who list = sheet_text (new_sheet d who list None)

-- What the umpire tells of a session: one player's sheet, and all lines of both players.
use Rattle.std.specs.Prelude.{ℕ, List, [], ◌∷◌, ◌++◌, Option, Some, None, map, if◌then◌else◌}
use Rattle.std.specs.List.{flat_map, filter_map}
use Rattle.krieg_board.specs.Men.{is_same_side}
use Rattle.krieg_board.specs.Pos.{Pos}
use Rattle.krieg_board.specs.declared.men.Side.{Side}
use Rattle.krieg_board.specs.declared.men.Side.TheVariants.{White, Black}
use Rattle.krieg_text.specs.Writing.{Pieces, put_lines}
use Rattle.krieg_words.specs.WordsOfMoves.{opening}
use Rattle.krieg_words.specs.ToldWords.{told}
use Rattle.krieg_wordtext.specs.Line.{told_line, line_text}
use Rattle.krieg_words.specs.declared.dialects.Dialect.{Dialect}
use Rattle.krieg_wordtext.specs.declared.line.Line.{Line}
use Rattle.krieg_wordtext.specs.declared.line.Line.TheVariants.{Opens}
use Rattle.krieg_umpire.specs.declared.verdict.Event.{Event}
use Rattle.krieg_umpire.specs.declared.verdict.Judged.{Judged}
use Rattle.krieg_umpire.specs.Games.{judge}
use Rattle.krieg_umpire.specs.Hearing.{line_for, lines_for}
use Rattle.krieg_sheet.specs.Sheets.{SheetState}
use Rattle.krieg_sheet.specs.SheetText.{entry_line, sheet_text}
use Rattle.krieg_fen.specs.Forms.{side_mark}

-- A player's sheet of tries that were judged: it lists the position in which the game began, and has the
-- opening words and the lines that he hears, as the dialect tells them.
abbrev pub sheet_of_log : Dialect → Pos → List Judged → Side → SheetState
sheet_of_log d p log who = record {
  dialect = d;
  side = who;
  list = p ∷ [];
  opens = Some (told d (opening p));
  entries = map (told_line d) (lines_for who log);
}

-- a player's sheet of a game
abbrev pub sheet_of : Dialect → Pos → List Event → Side → SheetState
sheet_of d p events who = sheet_of_log d p (judge p events) who

-- the lines of a sheet on which he hears of them
unfoldable pub heard_lines : Dialect → Side → List Judged → List Pieces
heard_lines d who log = map (entry_line d) (map (told_line d) (lines_for who log))

-- a player's line, where he has one, as the dialect tells it
abbrev pub players_line : Dialect → Side → Option Line → List (Side × Line)
players_line d who None = []
players_line d who (Some l) = (who, told_line d l) ∷ []

-- White's line of a judged try, and after it Black's
abbrev pub both_lines : Dialect → Judged → List (Side × Line)
both_lines d j = players_line d White (line_for White j) ++ players_line d Black (line_for Black j)

-- the opening words, told to White and to Black, and then for each try that was judged White's line and Black's
abbrev pub lines_of_log : Dialect → Pos → List Judged → List (Side × Line)
lines_of_log d p log =
    players_line d White (Some (Opens (opening p)))
    ++ (players_line d Black (Some (Opens (opening p)))
    ++ flat_map (both_lines d) log)

-- all that both players are told of a game
abbrev pub all_lines : Dialect → Pos → List Event → List (Side × Line)
all_lines d p events = lines_of_log d p (judge p events)

-- the lines of one player, in their order
abbrev pub if_of : Side → Side × Line → Option Line
if_of who l = if is_same_side l.0 who then Some l.1 else None

-- the lines of that side
abbrev pub lines_of : Side → List (Side × Line) → List Line
lines_of who ls = filter_map (if_of who) ls

-- a player's line with its mark
abbrev pub marked_line : Dialect → Side × Line → Pieces
marked_line d l = side_mark l.0 ∷ line_text d l.1 ∷ []

-- all lines of both players, of tries that were judged
unfoldable pub marked_lines : Dialect → Pos → List Judged → List Pieces
marked_lines d p log = map (marked_line d) (lines_of_log d p log)

-- the text of all of them
unfoldable pub all_text : Dialect → Pos → List Event → List ℕ
all_text d p events = put_lines [] (marked_lines d p (judge p events))

-- what the umpire writes: the sheet of one player, or all lines of both
abbrev pub umpire_text : Dialect → Pos → List Event → Option Side → List ℕ
umpire_text d p events (Some who) = sheet_text (sheet_of d p events who)
umpire_text d p events None = all_text d p events

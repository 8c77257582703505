-- A player's line as each dialect tells it, and its text. A space is byte 32.
use Rattle.std.specs.Prelude.{◌≡◌, ℕ, List, ◌++◌, codes}
use Rattle.krieg_fen.specs.MoveText.{move_text, IsOnBoard}
use Rattle.krieg_words.specs.declared.dialects.Dialect.{Dialect}
use Rattle.krieg_wordtext.specs.declared.line.Line.{Line}
use Rattle.krieg_wordtext.specs.declared.line.Line.TheVariants.{Opens, Illegal, Done, Heard, Early, Over}
use Rattle.krieg_words.specs.Words.{IsSaid}
use Rattle.krieg_words.specs.ToldWords.{told}
use Rattle.krieg_wordtext.specs.WordsText.{words_text}

-- words that can be said, and moves between squares of the board
abbrev pub IsLine : Line → Type 0
IsLine (Opens w) = IsSaid w
IsLine (Illegal m) = IsOnBoard m
IsLine (Done m w) = IsOnBoard m × IsSaid w
IsLine (Heard w) = IsSaid w
IsLine (Early m) = IsOnBoard m
IsLine (Over m) = IsOnBoard m

-- the line with its words as the dialect tells them
abbrev pub told_line : Dialect → Line → Line
told_line d (Opens w) = Opens (told d w)
told_line d (Illegal m) = Illegal m
told_line d (Done m w) = Done m (told d w)
told_line d (Heard w) = Heard (told d w)
told_line d (Early m) = Early m
told_line d (Over m) = Over m

-- a line whose words the dialect can tell
abbrev pub LineFits : Dialect → Line → Type 0
LineFits d l = told_line d l ≡ l

-- the one text of a line in a dialect
unfoldable pub line_text : Dialect → Line → List ℕ
line_text d (Opens w) = codes "opens " ++ words_text d w
line_text d (Illegal m) = codes "try " ++ (move_text m ++ codes " illegal")
line_text d (Done m w) = codes "try " ++ (move_text m ++ (codes " ok " ++ words_text d w))
line_text d (Heard w) = codes "heard " ++ words_text d w
line_text d (Early m) = codes "try " ++ (move_text m ++ codes " early")
line_text d (Over m) = codes "try " ++ (move_text m ++ codes " over")

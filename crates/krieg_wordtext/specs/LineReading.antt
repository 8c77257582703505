-- The line that a text spells in each dialect. A space is byte 32.
use Rattle.std.specs.Prelude.{ℕ, List, codes, Option, Some, None, if◌then◌else◌}
use Rattle.std.specs.Str.{bytes_eq}
use Rattle.std.specs.Option.{option_map}
use Rattle.krieg_board.specs.declared.men.Move.{Move}
use Rattle.krieg_text.specs.Names.{behind, cut}
use Rattle.krieg_fen.specs.MoveText.{move_of}
use Rattle.krieg_words.specs.declared.dialects.Dialect.{Dialect}
use Rattle.krieg_wordtext.specs.declared.line.Line.{Line}
use Rattle.krieg_wordtext.specs.declared.line.Line.TheVariants.{Opens, Illegal, Done, Heard, Early, Over}
use Rattle.krieg_words.specs.Words.{Said}
use Rattle.krieg_wordtext.specs.WordsReading.{words_in}

-- words, as a line of that kind
abbrev pub words_as : Dialect → (Said → Line) → List ℕ → Option Line
words_as d kind text = option_map kind (words_in d text)

-- the line of a try that was done, with the words of the text
abbrev pub done_in : Dialect → Move → Option (List ℕ) → Option Line
done_in d m None = None
done_in d m (Some text) = words_as d (Done m) text

-- what became of a try
abbrev pub judged_in : Dialect → Move → List ℕ → Option Line
judged_in d m text =
    if bytes_eq text (codes "illegal") then Some (Illegal m)
    else (if bytes_eq text (codes "early") then Some (Early m)
    else (if bytes_eq text (codes "over") then Some (Over m)
    else done_in d m (behind (codes "ok ") text)))

-- the line of a try, by what is said of it behind the move
abbrev pub tried_in : Dialect → Option Move → Option (List ℕ) → Option Line
tried_in d None rest = None
tried_in d (Some m) None = None
tried_in d (Some m) (Some text) = judged_in d m text

-- a move and, after a space, what became of it
abbrev pub try_in : Dialect → Option (List ℕ) → Option Line
try_in d None = None
try_in d (Some text) = tried_in d (move_of (cut 32 text).0) (cut 32 text).1

-- the line of what was heard of the other side, or else that of a try
abbrev pub heard_in : Dialect → Option (List ℕ) → List ℕ → Option Line
heard_in d (Some text) line = words_as d Heard text
heard_in d None line = try_in d (behind (codes "try ") line)

-- the line of the opening words, or else another line
abbrev pub opens_in : Dialect → Option (List ℕ) → List ℕ → Option Line
opens_in d (Some text) line = words_as d Opens text
opens_in d None line = heard_in d (behind (codes "heard ") line) line

-- by the word with which it begins
unfoldable pub line_in : Dialect → List ℕ → Option Line
line_in d line = opens_in d (behind (codes "opens ") line) line

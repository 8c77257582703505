-- What a player hears of a game.
use Rattle.std.specs.Prelude.{◌||◌, List, [], ◌∷◌, Option, Some, None, map, if◌then◌else◌}
use Rattle.std.specs.List.{filter_map}
use Rattle.krieg_board.specs.Men.{is_same_side}
use Rattle.krieg_board.specs.Pos.{Pos}
use Rattle.krieg_board.specs.declared.men.Side.{Side}
use Rattle.krieg_board.specs.declared.men.Move.{Move}
use Rattle.krieg_words.specs.WordsOfMoves.{opening}
use Rattle.krieg_wordtext.specs.Line.{told_line}
use Rattle.krieg_words.specs.declared.dialects.Dialect.{Dialect}
use Rattle.krieg_wordtext.specs.declared.line.Line.{Line}
use Rattle.krieg_wordtext.specs.declared.line.Line.TheVariants as line
use Rattle.krieg_umpire.specs.declared.verdict.Event.{Event}
use Rattle.krieg_umpire.specs.declared.verdict.Judged.{Judged}
use Rattle.krieg_umpire.specs.declared.verdict.Verdict.{Verdict}
use Rattle.krieg_umpire.specs.declared.verdict.Verdict.TheVariants as verdict
use Rattle.krieg_umpire.specs.Verdicts.{verdict, next, is_done}
use Rattle.krieg_umpire.specs.Games.{judge}

-- what the player who tried hears of his try
abbrev pub own_line : Move → Verdict → Line
own_line m verdict.Over = line.Over m
own_line m verdict.Early = line.Early m
own_line m verdict.Illegal = line.Illegal m
own_line m (verdict.Done w) = line.Done m w

-- what the other player hears of it: the words of a try that is done, and nothing of any other
abbrev pub others_line : Verdict → Option Line
others_line verdict.Over = None
others_line verdict.Early = None
others_line verdict.Illegal = None
others_line (verdict.Done w) = Some (line.Heard w)

-- what a player hears of a try that was judged
abbrev pub line_for : Side → Judged → Option Line
line_for who j = if is_same_side j.event.who who then Some (own_line j.event.mv j.verdict) else others_line j.verdict

-- what a player hears of the tries, in the umpire's words
abbrev pub lines_for : Side → List Judged → List Line
lines_for who log = filter_map (line_for who) log

-- all that a player hears of a game, as the dialect tells it: the opening words, and then a line for each try of which he hears
abbrev pub heard : Dialect → Pos → List Event → Side → List Line
heard d p events who = told_line d (line.Opens (opening p)) ∷ map (told_line d) (lines_for who (judge p events))

-- the tries without those of the other player that are not done
abbrev pub strip : Pos → List Event → Side → List Event
strip p [] who = []
strip p (e ∷ es) who =
    if is_same_side e.who who || is_done (verdict p e.who e.mv) then e ∷ strip (next p e.who e.mv) es who
    else strip (next p e.who e.mv) es who

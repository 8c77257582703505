-- Whether a game goes on as it stands by a line that is no move.
use Rattle.std.specs.Prelude.{Bool, false, not, ◌&&◌}
use Rattle.std.specs.Ordering.{is_eq}
use Rattle.krieg_board.specs.Men.{is_same_side}
use Rattle.krieg_board.specs.Pos.{Pos}
use Rattle.krieg_board.specs.declared.men.Side.{Side}
use Rattle.krieg_moves.specs.Legal.{is_legal}
use Rattle.krieg_moves.specs.Moves.{is_ended}
use Rattle.krieg_words.specs.Words.{Said, words_cmp}
use Rattle.krieg_words.specs.WordsOfMoves.{opening}
use Rattle.krieg_words.specs.ToldWords.{told}
use Rattle.krieg_words.specs.declared.dialects.Dialect.{Dialect}
use Rattle.krieg_wordtext.specs.declared.line.Line.{Line}
use Rattle.krieg_wordtext.specs.declared.line.Line.TheVariants.{Opens, Illegal, Done, Heard, Early, Over}

-- the words are told of the position at the start
abbrev pub has_opening : Dialect → Said → Pos → Bool
has_opening d w p = is_eq (words_cmp w (told d (opening p)))

-- whether a game goes on from p as it stands by a line that is no move
abbrev pub stays : Dialect → Side → Line → Pos → Bool
stays d who (Opens w) p = has_opening d w p
stays d who (Illegal m) p = not (is_ended p) && (is_same_side p.side who && not (is_legal p m))
stays d who (Done m w) p = false
stays d who (Heard w) p = false
stays d who (Early m) p = not (is_ended p) && not (is_same_side p.side who)
stays d who (Over m) p = is_ended p

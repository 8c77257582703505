-- Whether words are what a dialect tells of a move, and what of that each part of the words decides.
use Rattle.std.specs.Prelude.{Bool, ◌==◌, ◌&&◌, Option, Some, None, if◌then◌else◌}
use Rattle.std.specs.Ordering.{is_eq}
use Rattle.krieg_board.specs.Board.{man_at}
use Rattle.krieg_board.specs.Pos.{Pos}
use Rattle.krieg_board.specs.declared.men.Move.{Move}
use Rattle.krieg_moves.specs.After.{after}
use Rattle.krieg_moves.specs.Legal.{is_legal}
use Rattle.krieg_words.specs.Kinds.{kinds, bits_of}
use Rattle.krieg_words.specs.declared.words.End.{End}
use Rattle.krieg_words.specs.declared.words.Took.{Took}
use Rattle.krieg_words.specs.declared.dialects.Dialect.{Dialect}
use Rattle.krieg_words.specs.Words.{Said, end_rank, took_rank, took_square, words_cmp}
use Rattle.krieg_words.specs.PawnTries.{tries}
use Rattle.krieg_words.specs.WordsOfMoves.{end_of, words, took_by}
use Rattle.krieg_words.specs.Dialects.{dialect_rules}
use Rattle.krieg_words.specs.ToldWords.{told, took_told, checks_told, tries_told}

-- the words are told of the move
abbrev pub are_told : Dialect → Said → Pos → Move → Bool
are_told d w p m = is_eq (words_cmp w (told d (words p m)))

-- the position after the move, where the words are told of it
abbrev pub after_told : Dialect → Said → Pos → Move → Option Pos
after_told d w p m = if are_told d w p m then Some (after p m) else None

-- the same of a try, which need not be legal
abbrev pub after_told_if_legal : Dialect → Said → Pos → Move → Option Pos
after_told_if_legal d w p m = if is_legal p m && are_told d w p m then Some (after p m) else None

-- Of the parts of the words.

-- the same was captured, on the same square
abbrev pub is_same_took : Took → Took → Bool
is_same_took t u = took_rank t == took_rank u && took_square t == took_square u

-- that capture is told of the move
abbrev pub is_took_told : Dialect → Took → Pos → Move → Bool
is_took_told d took p m = is_same_took took (took_told (dialect_rules d).men (took_by p (man_at p.board m.from) m))

-- that is how the game stands
abbrev pub has_end : End → Pos → Bool
has_end end p = end_rank end == end_rank (end_of p)

-- the checks, the end and the tries are told of a move after which the position is p
abbrev pub is_rest_told : Dialect → Said → Pos → Bool
is_rest_told d w p = bits_of w.checks == bits_of (checks_told (dialect_rules d).checks (kinds p)) && (has_end w.end p && w.tries == tries_told (dialect_rules d).tries (tries p))

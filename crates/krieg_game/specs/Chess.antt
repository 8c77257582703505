-- Chess under an umpire, as the theory of plans sees it.
use Rattle.std.specs.Prelude.{Bool, List, map}
use Rattle.krieg_board.specs.Order.{move_lt}
use Rattle.krieg_board.specs.Pos.{Pos}
use Rattle.krieg_board.specs.declared.men.Move.{Move}
use Rattle.krieg_moves.specs.Legal.{is_legal}
use Rattle.krieg_moves.specs.After.{after}
use Rattle.krieg_moves.specs.Moves.{moves, all_moves, is_stalemate}
use Rattle.krieg_words.specs.Words.{Said}
use Rattle.krieg_words.specs.WordsOfMoves.{words}
use Rattle.krieg_words.specs.ToldWords.{told}
use Rattle.krieg_words.specs.declared.dialects.Dialect.{Dialect}
use Rattle.krieg_pack.specs.Order.{position_lt}
use Rattle.krieg_theory.specs.Game.{Game}
use Rattle.krieg_game.specs.Keys.{Key, key_lt}

-- the legal try leaves a stalemate
unfoldable pub stalemates : Pos → Move → Bool
stalemates p t = is_stalemate (after p t)

-- a reply in the position after a move of those words: what is told of both, and the position after it
abbrev pub outcome : Dialect → Said → Pos → Move → Key × Pos
outcome d own q r = ((told d own, told d (words q r)), after q r)

-- for each reply to the legal try
unfoldable pub outcomes : Dialect → Pos → Move → List (Key × Pos)
outcomes d p t = map (outcome d (words p t) (after p t)) (moves (after p t))

-- the game of the player who is to move
abbrev pub chess : Dialect → Game
chess d = record {
  Position = Pos;
  Move = Move;
  Key = Key;
  moves = all_moves;
  legal = is_legal;
  stalemates = stalemates;
  outcomes = outcomes d;
  position_lt = position_lt;
  move_lt = move_lt;
  key_lt = key_lt;
}

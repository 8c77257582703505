-- How a game from a listed position comes to the player's first turn.
use Rattle.std.specs.Prelude.{Bool, not, List, [], ◌∷◌, map, Some, None, if◌then◌else◌}
use Rattle.krieg_board.specs.Men.{is_same_side}
use Rattle.krieg_board.specs.Pos.{Pos}
use Rattle.krieg_board.specs.declared.men.Side.{Side}
use Rattle.krieg_board.specs.declared.men.Move.{Move}
use Rattle.krieg_moves.specs.After.{after}
use Rattle.krieg_moves.specs.Moves.{moves}
use Rattle.krieg_words.specs.WordsOfMoves.{words, opening}
use Rattle.krieg_words.specs.ToldWords.{told}
use Rattle.krieg_words.specs.declared.dialects.Dialect.{Dialect}
use Rattle.krieg_theory.specs.Plans.{Outset}
use Rattle.krieg_game.specs.Keys.{RootKey, root_lt}
use Rattle.krieg_game.specs.Chess.{chess}

-- a first move of the opponent: what is told of the opening and of it, and the position after it
abbrev pub first_move : Dialect → Pos → Move → RootKey × Pos
first_move d p r = ((told d (opening p), Some (told d (words p r))), after p r)

-- the position itself where the player is to move, and else one for each move of the opponent
unfoldable pub starts : Dialect → Side → Pos → List (RootKey × Pos)
starts d who p = if is_same_side p.side who then ((told d (opening p), None), p) ∷ [] else map (first_move d p) (moves p)

-- the opponent is to move first
unfoldable pub waits : Side → Pos → Bool
waits who p = not (is_same_side p.side who)

-- how a plan of that side begins: by the opening words, and by those of a first move where the opponent is to move
abbrev pub outset : (d : Dialect) → Side → Outset (chess d)
outset d who = record {
  Root = RootKey;
  starts = starts d who;
  waits = waits who;
  root_lt = root_lt;
}

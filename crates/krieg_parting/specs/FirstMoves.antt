-- The first moves in the positions of a set.
use Rattle.std.specs.Prelude.{◌≡◌, ◌||◌, ◌++◌, List, map}
use Rattle.std.specs.List.{list_any}
use Rattle.krieg_board.specs.Pos.{Pos}
use Rattle.krieg_moves.specs.Moves.{moves, is_ended}
use Rattle.krieg_words.specs.WordsOfMoves.{opening}
use Rattle.krieg_words.specs.declared.dialects.Dialect.{Dialect}
use Rattle.krieg_game.specs.Chess.{outcome}
use Rattle.krieg_game.specs.ClassLaws.{first_outcomes}
use Rattle.krieg_game.specs.Buckets.{Holds}
use Rattle.krieg_parting.specs.declared.firsts.FirstMoves.{FirstMoves}

-- what those in one member add
pub record IsAdvanced (d : Dialect) (old new : FirstMoves) (p : Pos) : Type 0 where
  pub ended_part : new.ended ≡ (old.ended || is_ended p)
  pub pool_part : Holds new.pool (old.pool ++ map (outcome d (opening p) p) (moves p))

-- those in all members: whether in some there is none, and what comes of them
pub record AreFirstMoves (d : Dialect) (B : List Pos) (found : FirstMoves) : Type 0 where
  pub ended_part : found.ended ≡ list_any is_ended B
  pub pool_part : Holds found.pool (first_outcomes d B)

-- What is gathered of the members of a set.
use Rattle.std.specs.Prelude.{◌≡◌, ◌++◌, true, ◌&&◌, ◌||◌, [], ◌∷◌, List}
use Rattle.krieg_board.specs.Pos.{Pos}
use Rattle.krieg_board.specs.declared.men.Move.{Move}
use Rattle.krieg_moves.specs.Legal.{is_legal}
use Rattle.krieg_words.specs.declared.dialects.Dialect.{Dialect}
use Rattle.krieg_theory.specs.Split.{refused, stale_in_some, given, all_outcomes}
use Rattle.krieg_game.specs.Chess.{chess, stalemates}
use Rattle.krieg_game.specs.Buckets.{Holds}
use Rattle.krieg_parting.specs.Wants.{is_wanted}
use Rattle.krieg_parting.specs.declared.parts.Attempt.{Attempt}
use Rattle.krieg_parting.specs.declared.parts.UnsortedParts.{UnsortedParts}

-- a try of which all is wanted
abbrev pub whole_try : Dialect → Move → Attempt
whole_try d t = record { dialect = d; mv = t; always = true }

-- what one member adds
pub record IsAdded (a : Attempt) (old new : UnsortedParts) (p : Pos) : Type 0 where
  pub stale_part : new.stale ≡ (old.stale || (is_legal p a.mv && stalemates p a.mv))
  pub refused_part : is_wanted a.always new.stale ≡ true → new.refused.items ≡ old.refused.items ++ refused (chess a.dialect) (p ∷ []) a.mv
  pub pool_part : is_wanted a.always new.stale ≡ true → Holds new.pool (old.pool ++ given (chess a.dialect) a.mv p)

-- all of the set is gathered, or that the try stalemates in some member
pub record IsGathered (a : Attempt) (B : List Pos) (parts : UnsortedParts) : Type 0 where
  pub stale_part : parts.stale ≡ stale_in_some (chess a.dialect) B a.mv
  pub refused_part : is_wanted a.always parts.stale ≡ true → parts.refused.items ≡ refused (chess a.dialect) B a.mv
  pub pool_part : is_wanted a.always parts.stale ≡ true → Holds parts.pool (all_outcomes (chess a.dialect) B a.mv)

-- What is found of a try that must mate. Nothing that is heard matters for it, so the first part names no dialect.
use Rattle.std.specs.Prelude.{◌≡◌, ℕ, ◌+◌, Bool, true, not, ◌&&◌, ◌||◌, ◌++◌, [], ◌∷◌, List, filter, length, if◌then◌else◌}
use Rattle.std.specs.List.{list_any}
use Rattle.krieg_board.specs.Pos.{Pos}
use Rattle.krieg_board.specs.declared.men.Move.{Move}
use Rattle.krieg_moves.specs.Legal.{is_legal}
use Rattle.krieg_moves.specs.After.{after}
use Rattle.krieg_moves.specs.Moves.{moves, is_mate}
use Rattle.krieg_words.specs.declared.dialects.Dialect.{Dialect}
use Rattle.krieg_theory.specs.Split.{refused}
use Rattle.krieg_costs.specs.Sums.{total}
use Rattle.krieg_costs.specs.Block.{lives_in_some}
use Rattle.krieg_game.specs.Chess.{chess}
use Rattle.krieg_parting.specs.Wants.{is_wanted}
use Rattle.krieg_parting.specs.declared.last_move.Mating.{Mating}

-- the try is legal and does not mate
abbrev pub lives : Move → Pos → Bool
lives t p = is_legal p t && not (is_mate (after p t))

-- it is illegal
abbrev pub refuses : Move → Pos → Bool
refuses t p = not (is_legal p t)

-- how many replies there are to it
abbrev pub replies : Move → Pos → ℕ
replies t p = if is_legal p t then length (moves (after p t)) else 0

-- how many positions are looked at: the members, and those after a reply
abbrev pub looked_at : List Pos → Move → ℕ
looked_at B t = length B + total (replies t) B

-- what one member adds
pub record IsTried (always : Bool) (old new : Mating) (p : Pos) (t : Move) : Type 0 where
  pub lives_part : new.lives ≡ (old.lives || lives t p)
  pub refused_part : is_wanted always new.lives ≡ true → new.refused.items ≡ old.refused.items ++ filter (refuses t) (p ∷ [])

-- the try was made in all members
pub record AreTried (always : Bool) (B : List Pos) (t : Move) (found : Mating) : Type 0 where
  pub lives_part : found.lives ≡ list_any (lives t) B
  pub refused_part : is_wanted always found.lives ≡ true → found.refused.items ≡ filter (refuses t) B

-- the same in the words of the theory: whether it is legal in some member and does not mate, and who refuses it
pub record IsMating (d : Dialect) (always : Bool) (B : List Pos) (t : Move) (found : Mating) : Type 0 where
  pub lives_part : found.lives ≡ lives_in_some (chess d) B t
  pub refused_part : is_wanted always found.lives ≡ true → found.refused.items ≡ refused (chess d) B t

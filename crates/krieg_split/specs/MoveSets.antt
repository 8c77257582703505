-- Sets of moves.
use Rattle.std.specs.Prelude.{◌≡◌, ◌++◌, ◌∷◌, [], ℕ, true, Some, List, take, slice_get}
use Rattle.krieg_board.specs.Order.{move_lt}
use Rattle.krieg_board.specs.declared.men.Move.{Move}
use Rattle.krieg_theory.specs.Sets.{In, as_set}

-- the moves of a list, each once, in order
unfoldable pub move_set : List Move → List Move
move_set ms = as_set move_lt ms

-- each of the moves stands before that one
abbrev pub AllBefore : List Move → Move → Type 0
AllBefore ms m = (x : Move) → In x ms → move_lt x m ≡ true

-- the move was put into the set, at its place
pub record IsPut (old new : List Move) (m : Move) (place : ℕ) : Type 0 where
  pub set : new ≡ move_set (old ++ m ∷ [])
  pub at : slice_get new place ≡ Some m
  pub before : AllBefore (take place new) m

-- What holds of the positions that a plan file lists.
use Rattle.std.specs.Prelude.{◌≡◌, List}
use Rattle.krieg_board.specs.Pos.{Pos}
use Rattle.krieg_theory.specs.Sets.{In}

-- the same side is to move in all positions of a list
pub record IsOneTurn (S : List Pos) : Type 0 where
  pub same_side : (p q : Pos) → In p S → In q S → p.side ≡ q.side

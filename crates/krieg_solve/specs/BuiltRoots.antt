-- The roots of a plan that is built.
use Rattle.std.specs.Prelude.{◌≡◌, ℕ, List, map}
use Rattle.krieg_board.specs.Pos.{Pos}
use Rattle.krieg_words.specs.declared.dialects.Dialect.{Dialect}
use Rattle.krieg_theory.specs.Can.{least}
use Rattle.krieg_theory.specs.Plans.{greatest}
use Rattle.krieg_game.specs.Keys.{RootKey}
use Rattle.krieg_game.specs.Chess.{chess}
use Rattle.krieg_plan.specs.Roots.{root_of}
use Rattle.krieg_solve.specs.declared.roots.Roots.{Roots}
use Rattle.krieg_solve.specs.Building.{roots_for}

-- the roots have the canonical nodes of these sets, and the worst case is the greatest of their least numbers
pub record AreRoots (d : Dialect) (j : ℕ) (cs : List (RootKey × List Pos)) (r : Roots) : Type 0 where
  pub are : map root_of r.roots.items ≡ roots_for d j cs
  pub worst : r.worst ≡ greatest (λ (c : RootKey × List Pos). least (chess d) j c.1) cs

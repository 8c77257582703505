-- The size and the depth of a plan, over any game.
use Rattle.std.specs.Prelude.{ℕ, ◌+◌, List, [], ◌∷◌}
use Rattle.krieg_theory.specs.Tree.{Tree, size, depth}
use Rattle.krieg_theory.specs.Plans.{greatest}

module _ {R M K : Type 0} where
  -- how many nodes its trees have
  abbrev pub plan_size : List (R × Tree M K) → ℕ
  plan_size [] = 0
  plan_size (r ∷ rs) = size r.1 + plan_size rs

  -- how many nodes the longest path of its trees has
  abbrev pub plan_depth : List (R × Tree M K) → ℕ
  plan_depth rs = greatest (λ r. depth r.1) rs

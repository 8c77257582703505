-- The plan that is built where every opening set can be won.
use Rattle.std.specs.Prelude.{◌≡◌, ℕ, ◌<◌, ◌≤◌, List, Result, Ok, Err, ◌⊎◌, ⊤}
use Rattle.krieg_board.specs.Pos.{Pos}
use Rattle.krieg_words.specs.declared.dialects.Dialect.{Dialect}
use Rattle.krieg_theory.specs.Can.{least}
use Rattle.krieg_theory.specs.Plans.{greatest}
use Rattle.krieg_game.specs.Keys.{RootKey}
use Rattle.krieg_game.specs.Chess.{chess}
use Rattle.krieg_plan.specs.Trees.{PlanTrees, plan_size, plan_depth}
use Rattle.krieg_plan.specs.Plans.{plan_of}
use Rattle.krieg_plan.specs.declared.limits.TheConstants.{MOST_ON_PATH}
use Rattle.krieg_solve.specs.declared.best_plan.Answer.{Answer}
use Rattle.krieg_solve.specs.declared.best_plan.Answer.TheVariants.{Mates, None}
use Rattle.krieg_search.specs.declared.stop.SearchStop.{SearchStop}
use Rattle.krieg_search.specs.declared.stop.SearchStop.TheVariants.{Spent, Large, NoMemory}
use Rattle.krieg_solve.specs.Building.{roots_for}

-- the plan has at most so many nodes, and no path that is too long
pub record IsFit (nodes : ℕ) (plan : PlanTrees) : Type 0 where
  pub size : plan_size plan ≤ nodes
  pub depth : plan_depth plan ≤ MOST_ON_PATH

-- it has more nodes, or a path that is too long
abbrev pub IsUnfit : ℕ → PlanTrees → Type 0
IsUnfit nodes plan = (nodes < plan_size plan) ⊎ (MOST_ON_PATH < plan_depth plan)

module _ (d : Dialect) (j : ℕ) (cs : List (RootKey × List Pos)) where
  -- the plan has the canonical nodes of these sets as its roots, with the greatest of their least numbers, and fits
  pub record IsPlan (nodes worst : ℕ) (plan : PlanTrees) : Type 0 where
    pub are : plan ≡ roots_for d j cs
    pub greatest_least : worst ≡ greatest (λ (c : RootKey × List Pos). least (chess d) j c.1) cs
    pub fit : IsFit nodes plan

  abbrev pub IsPlanned : ℕ → Result Answer SearchStop → Type 0
  IsPlanned nodes (Ok (Mates worst plan)) = IsPlan nodes worst (plan_of plan)
  IsPlanned nodes (Ok None) = ⊥
  IsPlanned nodes (Err Spent) = ⊥
  IsPlanned nodes (Err Large) = IsUnfit nodes (roots_for d j cs)
  IsPlanned nodes (Err NoMemory) = ⊤

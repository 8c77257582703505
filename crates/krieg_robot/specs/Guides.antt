-- What a player may follow: a plan, in whatever form it is kept.
use Rattle.std.specs.Prelude.{ℕ, List}
use Rattle.krieg_board.specs.Pos.{Pos}
use Rattle.krieg_board.specs.declared.men.Side.{Side}
use Rattle.krieg_words.specs.declared.dialects.Dialect.{Dialect}
use Rattle.krieg_plan.specs.Plans.{plan_of}
use Rattle.krieg_plan.specs.Trees.{PlanTrees}
use Rattle.krieg_plan.specs.declared.plan.PlanFile.{PlanFile}
use Rattle.krieg_strategy.specs.Values.{plan_in}
use Rattle.krieg_strategy.specs.declared.strategy.Strategy.{Strategy}

-- the dialect, the player's side, the listed positions, the number of own moves that is claimed, and the plan
pub record Guidance : Type 0 where
  pub dialect : Dialect
  pub side : Side
  pub list : List Pos
  pub worst : ℕ
  pub plan : PlanTrees

-- a plan file guides by its plan
abbrev pub by_plan : PlanFile → Guidance
by_plan f = record { dialect = f.dialect; side = f.side; list = f.list.items; worst = f.worst; plan = plan_of f.plan }

-- a strategy guides by the plan that it unfolds to
abbrev pub by_strategy : Strategy → Guidance
by_strategy s = record { dialect = s.dialect; side = s.side; list = s.list.items; worst = s.worst; plan = plan_in s }

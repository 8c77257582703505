-- What guides a player who follows a plan file or a strategy: a plan, which for a strategy is the one that it unfolds to.
use Rattle.std.specs.Prelude.{ℕ, List, Result, Ok, Err}
use Rattle.krieg_text.specs.Lines.{lines}
use Rattle.krieg_text.specs.Reading.{whole}
use Rattle.krieg_text.specs.declared.fault.TextFault.{TextFault}
use Rattle.krieg_planfile.specs.PlanFiles.{PlanState}
use Rattle.krieg_planfile.specs.PlanReading.{plan_at}
use Rattle.krieg_strategyfile.specs.Strategies.{StrategyState}
use Rattle.krieg_strategyfile.specs.StrategyFormat.{strategy_at}
use Rattle.krieg_robot.specs.Guides.{Guidance}
use Rattle.krieg_outcome.specs.Judge.{unfolded}

-- what a plan file is as a guide
abbrev pub plan_guide : PlanState → Guidance
plan_guide s = record { dialect = s.dialect; side = s.side; list = s.list; worst = s.worst; plan = s.plan }

-- what a strategy is as a guide
abbrev pub strategy_guide : StrategyState → Guidance
strategy_guide s = record { dialect = s.dialect; side = s.side; list = s.list; worst = s.worst; plan = unfolded s }

-- what was read, as a guide
abbrev pub guided : {A : Type 0} → (A → Guidance) → Result A TextFault → Result Guidance TextFault
guided guide (Ok x) = Ok (guide x)
guided guide (Err fault) = Err fault

-- the guide that a text is as a plan file
abbrev pub plan_guide_in : List ℕ → Result Guidance TextFault
plan_guide_in text = guided plan_guide (whole plan_at (lines text))

-- and as a strategy
abbrev pub strategy_guide_in : List ℕ → Result Guidance TextFault
strategy_guide_in text = guided strategy_guide (whole strategy_at (lines text))

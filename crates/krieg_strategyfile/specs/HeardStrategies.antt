-- A strategy, and behind it what its player heard: what a text of both says, as of a plan file.
use Rattle.std.specs.Prelude.{ℕ, List, Result}
use Rattle.krieg_text.specs.declared.fault.TextFault.{TextFault}
use Rattle.krieg_planfile.specs.HeardReading.{HeardState, heard_by}
use Rattle.krieg_strategyfile.specs.Strategies.{StrategyState, state_of}
use Rattle.krieg_strategyfile.specs.StrategyFormat.{strategy_at}
use Rattle.krieg_strategyfile.specs.declared.heard.HeardStrategy.{HeardStrategy}

-- the strategy up to its line `end`, and lines of its dialect up to the end of the text
unfoldable pub heard_strategy : List (List ℕ) → Result (HeardState StrategyState) TextFault
heard_strategy ls = heard_by strategy_at (λ s. s.dialect) ls

-- a strategy with what its player heard, as contracts see it
abbrev pub heard_state_of : HeardStrategy → HeardState StrategyState
heard_state_of h = record { file = state_of h.strategy; heard = h.heard.items }

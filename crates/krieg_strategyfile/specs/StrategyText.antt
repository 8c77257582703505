-- The one written form of a strategy, read off its description.
use Rattle.std.specs.Prelude.{ℕ, List, []}
use Rattle.krieg_text.specs.Writing.{put_lines}
use Rattle.krieg_format.specs.Written.{written}
use Rattle.krieg_strategyfile.specs.Strategies.{StrategyState}
use Rattle.krieg_strategyfile.specs.StrategyFormat.{strategy_format}

-- a line feed stands after every line
unfoldable pub strategy_text : StrategyState → List ℕ
strategy_text s = put_lines [] (written strategy_format s)

-- the text of a strategy that can be written has fewer bytes
abbrev pub text_bound : ℕ
text_bound = 66000000

use Rattle.krieg_strategyfile.proofs.Common.{lines}
use Rattle.krieg_strategyfile.specs.HeardStrategies.{heard_state_of}
use Rattle.krieg_strategyfile.proofs.HeardTexts.{heard_strategy_reading}
use Rattle.krieg_strategyfile.proofs.heard.read_heard_strategy.Goals as goal

pub returns-clause-reading : goal.returns-clause-reading
returns-clause-reading c = heard_strategy_reading (λ h. heard_state_of h) c.read_lines.result (lines c.args.text.now) c.read_lines.ensures

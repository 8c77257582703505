use Rattle.krieg_belief.proofs.OneAnswer.{shown_once}
use Rattle.krieg_belief.proofs.laws.shown_law.Goals as goal

pub returns : goal.returns
returns c = shown_once

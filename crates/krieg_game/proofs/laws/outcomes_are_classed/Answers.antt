use Rattle.krieg_game.proofs.Classed.{outcomes_are_classed}
use Rattle.krieg_game.proofs.laws.outcomes_are_classed.Goals as goal

pub returns : goal.returns
returns c = outcomes_are_classed

use Rattle.krieg_game.proofs.Classed.{openings_are_classed}
use Rattle.krieg_game.proofs.laws.openings_are_classed.Goals as goal

pub returns : goal.returns
returns c = openings_are_classed

use Rattle.krieg_game.proofs.Classed.{first_moves_are_classed}
use Rattle.krieg_game.proofs.laws.first_moves_are_classed.Goals as goal

pub returns : goal.returns
returns c = first_moves_are_classed

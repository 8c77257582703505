use Rattle.krieg_game.proofs.Starting.{openings_come_first}
use Rattle.krieg_game.proofs.laws.openings_come_first.Goals as goal

pub returns : goal.returns
returns c = openings_come_first

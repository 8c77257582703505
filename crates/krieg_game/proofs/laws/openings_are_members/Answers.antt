use Rattle.krieg_game.proofs.Starting.{openings_are_members}
use Rattle.krieg_game.proofs.laws.openings_are_members.Goals as goal

pub returns : goal.returns
returns c = openings_are_members

use Rattle.krieg_game.proofs.Splitting.{refused_ascends}
use Rattle.krieg_game.proofs.laws.refused_ascends.Goals as goal

pub returns : goal.returns
returns c = refused_ascends

use Rattle.krieg_theory.proofs.Theorems.{can_begins}
use Rattle.krieg_theory.proofs.laws.can_begins.Goals as goal

pub returns : goal.returns
returns g c = can_begins g.G.HiddenGame.game g.G.HiddenGame.lawful

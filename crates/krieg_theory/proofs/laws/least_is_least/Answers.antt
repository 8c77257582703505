use Rattle.krieg_theory.proofs.Theorems.{least_is_least}
use Rattle.krieg_theory.proofs.laws.least_is_least.Goals as goal

pub returns : goal.returns
returns g c = least_is_least g.G.HiddenGame.game g.G.HiddenGame.lawful

use Rattle.krieg_theory.proofs.Theorems.{can_is_won}
use Rattle.krieg_theory.proofs.laws.can_is_won.Goals as goal

pub returns : goal.returns
returns g c = can_is_won g.G.HiddenGame.game g.G.HiddenGame.lawful

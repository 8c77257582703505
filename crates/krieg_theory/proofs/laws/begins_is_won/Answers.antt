use Rattle.krieg_theory.proofs.Theorems.{begins_is_won}
use Rattle.krieg_theory.proofs.laws.begins_is_won.Goals as goal

pub returns : goal.returns
returns g c = begins_is_won g.G.HiddenGame.game g.G.HiddenGame.lawful

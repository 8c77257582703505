use Rattle.krieg_theory.proofs.Theorems.{worst_is_there}
use Rattle.krieg_theory.proofs.laws.worst_is_there.Goals as goal

pub returns : goal.returns
returns g c = worst_is_there g.G.HiddenGame.game g.G.HiddenGame.lawful g.G.HiddenGame.outset g.G.HiddenGame.outset_lawful

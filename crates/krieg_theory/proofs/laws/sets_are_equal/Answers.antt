use Rattle.krieg_theory.proofs.Theorems.{sets_are_equal}
use Rattle.krieg_theory.proofs.laws.sets_are_equal.Goals as goal

pub returns : goal.returns
returns g c = sets_are_equal g.G.HiddenGame.game g.G.HiddenGame.lawful

use Rattle.krieg_theory.proofs.Theorems.{canon_plan_is_one}
use Rattle.krieg_theory.proofs.laws.canon_plan_is_one.Goals as goal

pub returns : goal.returns
returns g c = canon_plan_is_one g.G.HiddenGame.game g.G.HiddenGame.lawful g.G.HiddenGame.outset g.G.HiddenGame.outset_lawful

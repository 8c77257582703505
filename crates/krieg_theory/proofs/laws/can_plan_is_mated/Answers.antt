use Rattle.krieg_theory.proofs.Theorems.{can_plan_is_mated}
use Rattle.krieg_theory.proofs.laws.can_plan_is_mated.Goals as goal

pub returns : goal.returns
returns g c = can_plan_is_mated g.G.HiddenGame.game g.G.HiddenGame.lawful g.G.HiddenGame.outset g.G.HiddenGame.outset_lawful

use Rattle.krieg_costs.proofs.Refuted.{refutation_excludes}
use Rattle.krieg_costs.proofs.laws.refutation_excludes.Goals as goal

pub returns : goal.returns
returns g c = refutation_excludes g.G.HiddenGame.game g.G.HiddenGame.lawful g.G.HiddenGame.outset g.G.HiddenGame.outset_lawful

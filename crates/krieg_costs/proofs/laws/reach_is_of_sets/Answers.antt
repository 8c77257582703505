use Rattle.krieg_costs.proofs.Reached.{reach_is_of_sets}
use Rattle.krieg_costs.proofs.laws.reach_is_of_sets.Goals as goal

pub returns : goal.returns
returns g c = reach_is_of_sets g.G.HiddenGame.game g.G.HiddenGame.lawful g.G.HiddenGame.outset g.G.HiddenGame.outset_lawful

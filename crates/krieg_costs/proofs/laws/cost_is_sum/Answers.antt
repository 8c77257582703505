use Rattle.krieg_costs.proofs.Costs.{cost_is_sum}
use Rattle.krieg_costs.proofs.laws.cost_is_sum.Goals as goal

pub returns : goal.returns
returns g c = cost_is_sum g.G.HiddenGame.game g.G.HiddenGame.lawful

use Rattle.krieg_costs.proofs.Costs.{fresh_is_at_most_cost}
use Rattle.krieg_costs.proofs.laws.fresh_is_at_most_cost.Goals as goal

pub returns : goal.returns
returns g c = fresh_is_at_most_cost g.G.HiddenGame.game g.G.HiddenGame.lawful g.G.HiddenGame.outset

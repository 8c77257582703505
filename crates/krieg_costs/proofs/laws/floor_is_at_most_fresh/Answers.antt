use Rattle.krieg_costs.proofs.Backed.{floor_is_at_most_fresh}
use Rattle.krieg_costs.proofs.laws.floor_is_at_most_fresh.Goals as goal

pub returns : goal.returns
returns g c = floor_is_at_most_fresh g.G.HiddenGame.game g.G.HiddenGame.lawful g.G.HiddenGame.outset g.G.HiddenGame.outset_lawful

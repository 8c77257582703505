use Rattle.krieg_costs.proofs.Backed.{backing_is_reached}
use Rattle.krieg_costs.proofs.laws.backing_is_reached.Goals as goal

pub returns : goal.returns
returns g c = backing_is_reached g.G.HiddenGame.game g.G.HiddenGame.lawful g.G.HiddenGame.outset g.G.HiddenGame.outset_lawful

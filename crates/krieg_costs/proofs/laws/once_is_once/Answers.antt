use Rattle.krieg_costs.proofs.Pairs.{once_is_once}
use Rattle.krieg_costs.proofs.laws.once_is_once.Goals as goal

pub returns : goal.returns
returns g c = once_is_once g.G.HiddenGame.game g.G.HiddenGame.lawful

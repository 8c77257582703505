use Rattle.krieg_costs.proofs.Blocks.{block_is_there}
use Rattle.krieg_costs.proofs.laws.block_is_there.Goals as goal

pub returns : goal.returns
returns g c = block_is_there g.G.HiddenGame.game g.G.HiddenGame.lawful

use Rattle.krieg_costs.proofs.Blocks.{block_is_lost}
use Rattle.krieg_costs.proofs.laws.block_is_lost.Goals as goal

pub returns : goal.returns
returns g c = block_is_lost g.G.HiddenGame.game g.G.HiddenGame.lawful

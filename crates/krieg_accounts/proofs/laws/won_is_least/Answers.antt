use Rattle.krieg_accounts.proofs.Tables.{won_is_least}
use Rattle.krieg_accounts.proofs.laws.won_is_least.Goals as goal

pub returns : goal.returns
returns g c = won_is_least g.G.HiddenGame.game g.G.HiddenGame.lawful

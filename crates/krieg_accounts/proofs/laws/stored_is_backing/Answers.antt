use Rattle.krieg_accounts.proofs.Floors.{stored_is_backing}
use Rattle.krieg_accounts.proofs.laws.stored_is_backing.Goals as goal

pub returns : goal.returns
returns g c = stored_is_backing g.G.HiddenGame.game g.G.HiddenGame.lawful

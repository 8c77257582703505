use Rattle.krieg_accounts.proofs.Canonical.{stored_is_canon}
use Rattle.krieg_accounts.proofs.laws.stored_is_canon.Goals as goal

pub returns : goal.returns
returns g c = stored_is_canon g.G.HiddenGame.game g.G.HiddenGame.lawful

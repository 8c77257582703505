use Rattle.krieg_accounts.proofs.Searches.{fresh_is_enough}
use Rattle.krieg_accounts.proofs.laws.fresh_is_enough.Goals as goal

pub returns : goal.returns
returns g c = fresh_is_enough g.G.HiddenGame.game g.G.HiddenGame.lawful g.G.HiddenGame.outset g.G.HiddenGame.outset_lawful

use Rattle.krieg_accounts.proofs.Stretches.{stretches_join}
use Rattle.krieg_accounts.proofs.laws.stretches_join.Goals as goal

pub returns : goal.returns
returns g c = stretches_join g.G.HiddenGame.game g.G.HiddenGame.lawful

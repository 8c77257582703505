use Rattle.krieg_accounts.proofs.Stretches.{short_of_pair}
use Rattle.krieg_accounts.proofs.laws.short_of_pair.Goals as goal

pub returns : goal.returns
returns g c = short_of_pair g.G.HiddenGame.game g.G.HiddenGame.lawful

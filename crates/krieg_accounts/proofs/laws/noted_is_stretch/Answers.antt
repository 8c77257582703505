use Rattle.krieg_accounts.proofs.Stretches.{noted_is_stretch}
use Rattle.krieg_accounts.proofs.laws.noted_is_stretch.Goals as goal

pub returns : goal.returns
returns g c = noted_is_stretch g.G.HiddenGame.game g.G.HiddenGame.lawful

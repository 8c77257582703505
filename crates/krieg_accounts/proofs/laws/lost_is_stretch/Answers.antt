use Rattle.krieg_accounts.proofs.Stretches.{lost_is_stretch}
use Rattle.krieg_accounts.proofs.laws.lost_is_stretch.Goals as goal

pub returns : goal.returns
returns g c = lost_is_stretch g.G.HiddenGame.game g.G.HiddenGame.lawful

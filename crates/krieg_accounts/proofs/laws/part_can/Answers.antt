use Rattle.krieg_accounts.proofs.Tables.{part_can}
use Rattle.krieg_accounts.proofs.laws.part_can.Goals as goal

pub returns : goal.returns
returns g c = part_can g.G.HiddenGame.game g.G.HiddenGame.lawful

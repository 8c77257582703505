use Rattle.krieg_accounts.proofs.Tables.{result_is_can}
use Rattle.krieg_accounts.proofs.laws.result_is_can.Goals as goal

pub returns : goal.returns
returns g c = result_is_can g.G.HiddenGame.game g.G.HiddenGame.lawful

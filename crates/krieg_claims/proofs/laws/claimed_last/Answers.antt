use Rattle.krieg_claims.proofs.Denied.{claimed_last}
use Rattle.krieg_claims.proofs.laws.claimed_last.Goals as goal

pub returns : goal.returns
returns g c = claimed_last g.G.HiddenGame.game g.G.HiddenGame.lawful

use Rattle.krieg_claims.proofs.Adding.{claimed_once}
use Rattle.krieg_claims.proofs.laws.claimed_once.Goals as goal

pub returns : goal.returns
returns g c = claimed_once g.G.HiddenGame.game g.G.HiddenGame.lawful

use Rattle.krieg_theory.proofs.Theorems.{canon_is_computed}
use Rattle.krieg_theory.proofs.laws.canon_is_computed.Goals as goal

pub returns : goal.returns
returns g c = canon_is_computed g.G.HiddenGame.game g.G.HiddenGame.lawful

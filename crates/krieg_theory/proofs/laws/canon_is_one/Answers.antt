use Rattle.krieg_theory.proofs.Theorems.{canon_is_one}
use Rattle.krieg_theory.proofs.laws.canon_is_one.Goals as goal

pub returns : goal.returns
returns g c = canon_is_one g.G.HiddenGame.game g.G.HiddenGame.lawful

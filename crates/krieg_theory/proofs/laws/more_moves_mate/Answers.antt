use Rattle.krieg_theory.proofs.Theorems.{more_moves_mate}
use Rattle.krieg_theory.proofs.laws.more_moves_mate.Goals as goal

pub returns : goal.returns
returns g c = more_moves_mate g.G.HiddenGame.game g.G.HiddenGame.lawful g.G.HiddenGame.outset g.G.HiddenGame.outset_lawful

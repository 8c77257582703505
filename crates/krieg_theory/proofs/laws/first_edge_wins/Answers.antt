use Rattle.krieg_theory.proofs.Theorems.{first_edge_wins}
use Rattle.krieg_theory.proofs.laws.first_edge_wins.Goals as goal

pub returns : goal.returns
returns g c = first_edge_wins g.G.HiddenGame.game

use Rattle.krieg_theory.proofs.Theorems.{more_moves_win}
use Rattle.krieg_theory.proofs.laws.more_moves_win.Goals as goal

pub returns : goal.returns
returns g c = more_moves_win g.G.HiddenGame.game

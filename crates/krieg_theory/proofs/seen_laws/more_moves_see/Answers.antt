use Rattle.krieg_theory.proofs.Seen.{more_moves_see}
use Rattle.krieg_theory.proofs.seen_laws.more_moves_see.Goals as goal

pub returns : goal.returns
returns g c = more_moves_see g.G.HiddenGame.game

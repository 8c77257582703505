use Rattle.krieg_game.proofs.Splitting.{classes_come_about}
use Rattle.krieg_game.proofs.laws.classes_come_about.Goals as goal

pub returns : goal.returns
returns c = classes_come_about

use Rattle.krieg_theory.proofs.Theorems.{classes_are_split}
use Rattle.krieg_theory.proofs.laws.classes_are_split.Goals as goal

pub returns : goal.returns
returns g c = classes_are_split g.G.HiddenGame.game g.G.HiddenGame.lawful

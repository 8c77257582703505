use Rattle.krieg_sight.proofs.Theorems.{escapes_is_flees}
use Rattle.krieg_sight.proofs.laws.escapes_is_flees.Goals as goal

pub returns : goal.returns
returns c = escapes_is_flees

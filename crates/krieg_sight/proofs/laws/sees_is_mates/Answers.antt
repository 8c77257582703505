use Rattle.krieg_sight.proofs.Theorems.{sees_is_mates}
use Rattle.krieg_sight.proofs.laws.sees_is_mates.Goals as goal

pub returns : goal.returns
returns c = sees_is_mates

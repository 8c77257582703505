use Rattle.krieg_solve.proofs.KeyLaws.{keys_are_won}
use Rattle.krieg_solve.proofs.laws.keys_are_won.Goals as goal

pub returns : goal.returns
returns c = keys_are_won

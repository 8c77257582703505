use Rattle.krieg_make.proofs.ValidPositions.{made_valid}
use Rattle.krieg_make.proofs.Mates.{rook_mates}
use Rattle.krieg_make.proofs.laws.positions_law.Goals as goal

pub returns-clause-valid : goal.returns-clause-valid
returns-clause-valid c = made_valid

pub returns-clause-mates : goal.returns-clause-mates
returns-clause-mates c = rook_mates

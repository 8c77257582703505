use Rattle.krieg_make.proofs.Common.{made_board}
use Rattle.krieg_make.proofs.position.made_board.Goals as goal

pub returns : goal.returns
unfolding made_board
returns c = cc

use Rattle.krieg_board.proofs.Common.{is_of}
use Rattle.krieg_board.proofs.Ones.{counted_set}
use Rattle.krieg_board.proofs.fault.count_side.Goals as goal

pub returns : goal.returns
returns c = counted_set (is_of c.args.side) c.args.b.now c.men_of.result c.men_of.type_inv c.requires c.men_of.ensures

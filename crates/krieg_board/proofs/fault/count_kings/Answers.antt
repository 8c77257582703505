use Rattle.krieg_board.proofs.Common.{King}
use Rattle.krieg_board.proofs.Faults.{counted_kind}
use Rattle.krieg_board.proofs.fault.count_kings.Goals as goal

pub returns : goal.returns
returns c =
    counted_kind King c.args.b.now c.args.side c.sets.result.now.kings c.men_of.result c.requires c.men_of.type_inv c.sets.ensures.kings c.men_of.ensures

use Rattle.krieg_board.proofs.Faults.{pawns_inside}
use Rattle.krieg_board.proofs.fault.has_pawns_inside.Goals as goal

pub returns : goal.returns
returns c = pawns_inside c.args.b.now c.sets.result.now.pawns c.sets.ensures.pawns

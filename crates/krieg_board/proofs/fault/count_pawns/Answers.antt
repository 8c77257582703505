use Rattle.krieg_board.proofs.Common.{Pawn}
use Rattle.krieg_board.proofs.Faults.{counted_kind}
use Rattle.krieg_board.proofs.fault.count_pawns.Goals as goal

pub returns : goal.returns
returns c =
    counted_kind Pawn c.args.b.now c.args.side c.sets.result.now.pawns c.men_of.result c.requires c.men_of.type_inv c.sets.ensures.pawns c.men_of.ensures

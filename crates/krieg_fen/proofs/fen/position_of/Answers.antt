use Rattle.std.proofs.Common.{rules}
use Rattle.krieg_fen.proofs.Common.{position_of}
use Rattle.krieg_fen.proofs.FieldCounts.{five_fields}
use Rattle.krieg_fen.proofs.fen.position_of.Goals as goal

pub returns-in-None : goal.returns-in-None
unfolding position_of
returns-in-None c = five_fields c.args.text.now c.in-Some.board.now c.in-Some.side.now c.in-Some.rights.now c.in-Some.mark.now c.in-Some-rest.clocks.now (search rules) c.in-None.ensures.none

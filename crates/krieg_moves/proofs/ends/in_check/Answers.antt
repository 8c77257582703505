use Rattle.std.proofs.Common.{◌∙◌}
use Rattle.krieg_board.proofs.Facts.{facts}
use Rattle.krieg_moves.proofs.Common.{in_check}
use Rattle.krieg_moves.proofs.Kings.{one_king, king_decides, one_king_found}
use Rattle.krieg_moves.proofs.ends.in_check.Goals as goal

pub king_of-king-requires : goal.king_of-king-requires
king_of-king-requires c =
    one_king_found c.args.p.now.board c.bits-bits.result.now c.args.p.now.side c.side-side.result c.bits-bits.ensures.value c.side-side.ensures.value
    (one_king c.args.p.now c.side-side.ensures.valid c.args.p.now.side)

pub returns : goal.returns
unfolding in_check
returns c =
    c.is_attacked.ensures
    ∙ king_decides c.args.p.now.board c.bits-bits.result.now c.args.p.now.side c.side-side.result c.other-by.result c.king_of-king.result
    c.bits-bits.ensures.value c.side-side.ensures.value c.other-by.ensures (facts c.args.p.now c.side-side.ensures.valid).squares
    (one_king c.args.p.now c.side-side.ensures.valid c.args.p.now.side) c.king_of-king.ensures.below c.king_of-king.ensures.king

use Rattle.std.proofs.Common.{◌∙◌, ap, sym}
use Rattle.krieg_board.proofs.Common.{is_attacked}
use Rattle.krieg_board.proofs.Faults.{one_king_each}
use Rattle.krieg_board.proofs.OneKing.{one_king_attacked}
use Rattle.krieg_board.proofs.fault.is_king_attacked.Goals as goal

pub king_of-king-requires : goal.king_of-king-requires
king_of-king-requires c = one_king_each c.args.b.now c.requires.kings c.args.side

pub returns : goal.returns
returns c =
    c.is_threatened.ensures
    ∙ ap (is_attacked c.args.b.now c.king_of-king.result) c.other.ensures
    ∙ sym (one_king_attacked c.args.b.now c.args.side c.king_of-king.result c.requires.squares (one_king_each c.args.b.now c.requires.kings c.args.side)
    c.king_of-king.ensures.below c.king_of-king.ensures.king)

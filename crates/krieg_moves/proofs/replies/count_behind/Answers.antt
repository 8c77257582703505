use Rattle.std.proofs.Common.{◌∙◌, ap}
use Rattle.krieg_moves.proofs.Common.{other}
use Rattle.krieg_moves.proofs.Kings.{one_king, one_king_found}
use Rattle.krieg_moves.proofs.replies.count_behind.Goals as goal

pub lone_king-requires : goal.lone_king-requires
lone_king-requires c =
    one_king_found c.args.p.now.board c.bits.result.now (other c.args.p.now.side) c.other.result c.bits.ensures.value (c.other.ensures ∙ ap other c.side.ensures.value)
    (one_king c.args.p.now c.know_valid.ensures (other c.args.p.now.side))

pub king_with_pawns-requires : goal.king_with_pawns-requires
king_with_pawns-requires c =
    one_king_found c.args.p.now.board c.bits-in_default.result.now (other c.args.p.now.side) c.other-in_default.result c.bits-in_default.ensures.value (c.other-in_default.ensures ∙ ap other c.side-in_default.ensures.value)
    (one_king c.args.p.now c.know_valid.ensures (other c.args.p.now.side))

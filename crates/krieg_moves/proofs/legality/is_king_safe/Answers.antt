use Rattle.std.proofs.Common.{◌∙◌, ap, not}
use Rattle.krieg_moves.proofs.Common.{board_after}
use Rattle.krieg_moves.proofs.Kings.{stands, king_decides, one_king_found}
use Rattle.krieg_moves.proofs.Safety.{legal_by_king}
use Rattle.krieg_moves.proofs.legality.is_king_safe.Goals as goal

pub king_of-king-requires : goal.king_of-king-requires
king_of-king-requires c =
    one_king_found (board_after c.args.p.now.board c.args.p.now.mark c.args.man c.args.mv.now) c.args.next.now c.args.p.now.side c.side-side.result
    c.requires.next c.side-side.ensures.value
    ((stands c.args.p.now c.args.man c.args.mv.now c.side-side.ensures.valid c.requires.man c.requires.candidate).kings c.args.p.now.side)

pub returns : goal.returns
returns c =
    let s = stands c.args.p.now c.args.man c.args.mv.now c.side-side.ensures.valid c.requires.man c.requires.candidate in
    legal_by_king c.args.p.now c.args.mv.now c.args.man (not c.is_attacked.result) c.requires.man c.requires.candidate (ap not (c.is_attacked.ensures
    ∙ king_decides (board_after c.args.p.now.board c.args.p.now.mark c.args.man c.args.mv.now) c.args.next.now c.args.p.now.side c.side-side.result c.other-by.result c.king_of-king.result
    c.requires.next c.side-side.ensures.value c.other-by.ensures
    s.size (s.kings c.args.p.now.side) c.king_of-king.ensures.below c.king_of-king.ensures.king))

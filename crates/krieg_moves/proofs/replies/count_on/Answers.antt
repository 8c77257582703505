use Rattle.std.proofs.Common.{◌∙◌, sym, ap}
use Rattle.krieg_moves.proofs.Common.{other, after}
use Rattle.krieg_moves.proofs.Kings.{one_king, one_king_found}
use Rattle.krieg_moves.proofs.KeepsValid.{valid_after}
use Rattle.krieg_moves.proofs.LoneKings.{board_is, side_is}
use Rattle.krieg_moves.proofs.replies.count_on.Goals as goal

pub lone_king-requires : goal.lone_king-requires
lone_king-requires c =
    let p = c.args.p.now in
    let m = c.args.mv.now in
    one_king_found (after p m).board c.args.next.now (after p m).side c.other-by.result
    (board_is p m c.args.man c.args.next.now c.requires.next c.requires.man)
    (c.other-by.ensures ∙ ap other c.side.ensures.value ∙ side_is p m c.args.man c.requires.man)
    (one_king (after p m) (valid_after p m c.side.ensures.valid c.requires.legal) (after p m).side)

pub returns-in-Some : goal.returns-in-Some
returns-in-Some c =
    let p = c.args.p.now in
    let m = c.args.mv.now in
    c.count_steps.ensures (after p m) (valid_after p m c.side.ensures.valid c.requires.legal)
    (sym (board_is p m c.args.man c.args.next.now c.requires.next c.requires.man))
    (sym (c.other-by.ensures ∙ ap other c.side.ensures.value ∙ side_is p m c.args.man c.requires.man))

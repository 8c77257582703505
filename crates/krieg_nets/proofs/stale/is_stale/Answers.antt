use Rattle.std.proofs.Common.{◌≡◌, ◌∙◌, sym, ap}
use Rattle.std.specs.Prelude.{Some, None, slice_set}
use Rattle.krieg_board.specs.Men.{no_rights}
use Rattle.krieg_moves.specs.Moves as list
use Rattle.krieg_nets.specs.LoneKings.{king_of, with_king}
use Rattle.krieg_nets.specs.Others.{lone_of}
use Rattle.krieg_nets.proofs.stale.is_stale.Goals as goal

pub returns-in-Ok : goal.returns-in-Ok
unfolding with_king
returns-in-Ok c = λ stale.
    let side = c.lone-side.ensures in
    let men = c.with-bits.ensures ∙ (λ i. slice_set (c.bits.ensures.board i) c.args.square (Some (king_of (side i)))) in
    let p : c.in-Ok.p ≡ with_king c.args.men.now.bits (lone_of c.args.men.now.others) c.args.square (lone_of c.args.men.now.others) =
    c.in-Ok.ensures.value ∙ (λ i. record { board = men i; side = side i; rights = no_rights; mark = None }) in
    ap list.is_stalemate (sym p) ∙ sym c.is_stalemate.ensures ∙ stale

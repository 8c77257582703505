use Rattle.std.proofs.Common.{◌∙◌, ◌&&◌, sym, ap, not}
use Rattle.std.specs.Prelude.{Some}
use Rattle.krieg_moves.proofs.Common.{is_of, is_move_of}
use Rattle.krieg_moves.proofs.Safety.{candidate_of}
use Rattle.krieg_moves.proofs.candidate.is_candidate.Goals as goal

pub returns-then-not-is_of : goal.returns-then-not-is_of
returns-then-not-is_of c =
    c.is_move_of.ensures
    ∙ sym (candidate_of c.args.p.now c.args.mv.now c.args.man c.know_squares.ensures.from c.know_squares.ensures.to c.requires
    ∙ ap (λ t. not t && is_move_of (Some c.args.man) c.args.p.now c.args.mv.now)
    (sym (c.is_of.ensures ∙ (λ i. is_of (c.side.ensures.value i) (c.man_at.ensures.value i))) ∙ c.if-not-is_of.true))

pub returns-else-not-is_of : goal.returns-else-not-is_of
returns-else-not-is_of c =
    ap not c.if-not-is_of.false
    ∙ sym (candidate_of c.args.p.now c.args.mv.now c.args.man c.know_squares.ensures.from c.know_squares.ensures.to c.requires
    ∙ ap (λ t. not t && is_move_of (Some c.args.man) c.args.p.now c.args.mv.now)
    (sym (c.is_of.ensures ∙ (λ i. is_of (c.side.ensures.value i) (c.man_at.ensures.value i))) ∙ c.if-not-is_of.false))

use Rattle.std.proofs.Common.{◌∙◌, ◌≡◌, ◌&&◌, sym, ap, true}
use Rattle.krieg_moves.proofs.Common.{attacks, has, is_legal}
use Rattle.krieg_moves.proofs.PawnGoing.{passing_candidate}
use Rattle.krieg_moves.proofs.target.passes.Goals as goal

pub leaves_king_safe-requires-clause-candidate : goal.leaves_king_safe-requires-clause-candidate
leaves_king_safe-requires-clause-candidate c =
    passing_candidate c.args.p.now c.args.mv.now c.args.man c.know_valid.ensures c.know_squares.ensures.from c.know_squares.ensures.to c.requires.man c.requires.own c.requires.pawn c.requires.plain c.requires.marked
    (sym (c.requires.attacked c.args.mv.now.to c.know_squares.ensures.to) ∙ sym (c.has.ensures ∙ ap (has c.args.attacked) c.number.ensures.value) ∙ c.if-has.true)

pub returns-then-has : goal.returns-then-has
returns-then-has c =
    let hits : attacks c.args.p.now.board c.args.mv.now.from c.args.mv.now.to ≡ true = sym (c.requires.attacked c.args.mv.now.to c.know_squares.ensures.to) ∙ sym (c.has.ensures ∙ ap (has c.args.attacked) c.number.ensures.value) ∙ c.if-has.true in
    c.leaves_king_safe.ensures ∙ sym (ap (λ x. x && is_legal c.args.p.now c.args.mv.now) hits)

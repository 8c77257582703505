use Rattle.std.proofs.Common.{◌∙◌, ◌≡◌, ◌&&◌, sym, ap, true}
use Rattle.krieg_moves.proofs.Common.{is_legal, can_castle}
use Rattle.krieg_moves.proofs.Going.{castle_candidate}
use Rattle.krieg_moves.proofs.target.castles.Goals as goal

pub leaves_king_safe-requires-clause-candidate : goal.leaves_king_safe-requires-clause-candidate
leaves_king_safe-requires-clause-candidate c =
    castle_candidate c.args.p.now c.args.mv.now c.args.man c.args.wing c.know_valid.ensures c.know_squares.ensures.from c.know_squares.ensures.to c.requires.man c.requires.own c.requires.king c.requires.plain
    (sym c.can_castle.ensures ∙ c.if-can_castle.true)

pub returns-then-can_castle : goal.returns-then-can_castle
returns-then-can_castle c =
    let may : can_castle c.args.wing c.args.p.now c.args.mv.now ≡ true = sym c.can_castle.ensures ∙ c.if-can_castle.true in
    c.leaves_king_safe.ensures ∙ sym (ap (λ x. x && is_legal c.args.p.now c.args.mv.now) may)

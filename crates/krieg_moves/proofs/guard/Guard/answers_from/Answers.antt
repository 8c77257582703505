use Rattle.std.proofs.Common.{◌∙◌, ◌≡◌, sym, false}
use Rattle.krieg_board.proofs.Facts.{facts}
use Rattle.krieg_moves.proofs.Common.{man_at, is_pinned}
use Rattle.krieg_moves.proofs.Answering.{unpinned_answered}
use Rattle.krieg_moves.proofs.Movers.{not_enemy}
use Rattle.krieg_moves.proofs.guard.Guard.answers_from.Goals as goal

pub returns-else-has : goal.returns-else-has
returns-else-has c = λ t h.
    let free : is_pinned c.args.p.now.board c.args.p.now.side c.args.from ≡ false =
    sym (c.requires.guard.pinned c.args.from c.requires.square) ∙ sym c.has.ensures ∙ c.if-has.false in
    c.requires.guard.answers t h
    ∙ sym (unpinned_answered c.args.p.now.board c.args.p.now.side c.args.self.now.king c.args.from t (facts c.args.p.now c.know_valid.ensures).squares c.requires.guard.inside c.requires.square
    c.requires.guard.king c.requires.own (not_enemy c.args.p.now.side (man_at c.args.p.now.board c.args.from) c.requires.own) free)

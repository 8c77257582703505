use Rattle.std.proofs.Common.{◌∙◌, ◌≡◌, sym, false}
use Rattle.krieg_moves.proofs.Common.{man_at, is_of}
use Rattle.krieg_board.proofs.SetLemmas.{has_zero}
use Rattle.krieg_moves.proofs.Going.{nothing_goes}
use Rattle.krieg_moves.proofs.target.targets.Goals as goal

pub returns-then-not-is_of : goal.returns-then-not-is_of
returns-then-not-is_of c = λ t h.
    let off : is_of c.args.p.now.side (man_at c.args.p.now.board c.args.from) ≡ false =
    (λ i. is_of (sym c.side.ensures.value i) (sym c.man_at-man.ensures.value i)) ∙ sym c.is_of.ensures ∙ c.if-not-is_of.true in
    has_zero t ∙ sym (nothing_goes c.args.p.now c.args.from t off)

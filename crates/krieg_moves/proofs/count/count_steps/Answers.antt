use Rattle.std.proofs.Common.{◌∙◌, sym, subst, arith}
use Rattle.krieg_moves.proofs.Common.{IsAlone, is_step_of_king}
use Rattle.krieg_moves.proofs.LoneKings.{steps_counted}
use Rattle.krieg_moves.proofs.count.count_steps.Goals as goal

pub returns : goal.returns
returns c = λ p valid board side.
    let alone : IsAlone p.board p.side c.args.king = subst (λ b. IsAlone b p.side c.args.king) (sym board) (subst (λ s. IsAlone c.args.b.now s c.args.king) (sym side) c.requires) in
    steps_counted p c.args.king valid (omega (arith, c.number.ensures.value, c.number.ensures.below)) alone c.king_steps.result c.king_steps.type_inv
    (λ t h. c.king_steps.ensures t h ∙ (λ i. is_step_of_king (sym board i) (sym side i) (c.number.ensures.value i) t))

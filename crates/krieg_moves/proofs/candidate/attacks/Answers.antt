use Rattle.std.proofs.Common.{◌∙◌, sym}
use Rattle.std.specs.Prelude.{Some}
use Rattle.krieg_moves.proofs.Common.{attacks, man_attacks, has}
use Rattle.krieg_moves.proofs.candidate.attacks.Goals as goal

pub returns : goal.returns
unfolding attacks
returns c =
    c.has.ensures
    ∙ (λ i. has c.attacked_from.result (c.number-2.ensures.value i))
    ∙ c.attacked_from.ensures c.args.mv.now.to c.know_squares.ensures.to
    ∙ (λ i. man_attacks c.args.b.now (Some c.args.man) (c.number.ensures.value i) c.args.mv.now.to)
    ∙ sym (λ i. man_attacks c.args.b.now (c.requires i) c.args.mv.now.from c.args.mv.now.to)

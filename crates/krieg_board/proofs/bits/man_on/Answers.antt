use Rattle.std.proofs.Common.{◌∙◌, sym, ap}
use Rattle.std.specs.Prelude.{Some}
use Rattle.std.proofs.lemmas.Bool.{cond-true, cond-false}
use Rattle.krieg_board.proofs.Common.{White, Black, has}
use Rattle.krieg_board.proofs.bits.man_on.Goals as goal

pub returns-then-has : goal.returns-then-has
returns-then-has c =
    ap (λ k. Some (record { side = White; kind = k })) c.kind_on.ensures
    ∙ sym (cond-true (has c.args.sets.now.white c.args.s) _ _ (sym c.has.ensures ∙ c.if-has.true))

pub returns-then-has-2 : goal.returns-then-has-2
returns-then-has-2 c =
    ap (λ k. Some (record { side = Black; kind = k })) c.kind_on-then-has-2.ensures
    ∙ sym (cond-false (has c.args.sets.now.white c.args.s) _ _ (sym c.has.ensures ∙ c.if-has.false)
    ∙ cond-true (has c.args.sets.now.black c.args.s) _ _ (sym c.has-else-has.ensures ∙ c.if-has-2.true))

pub returns-else-has-2 : goal.returns-else-has-2
returns-else-has-2 c =
    sym (cond-false (has c.args.sets.now.white c.args.s) _ _ (sym c.has.ensures ∙ c.if-has.false)
    ∙ cond-false (has c.args.sets.now.black c.args.s) _ _ (sym c.has-else-has.ensures ∙ c.if-has-2.false))

use Rattle.std.proofs.Common.{ℕ, ◌∙◌, sym, subst, arith}
use Rattle.krieg_board.proofs.Common.{attacks, IsLowest}
use Rattle.krieg_board.proofs.Searching.{some_of_zero, some_of_found, some_of_rest, attacked_way}
use Rattle.krieg_board.proofs.threat.is_threatened.Goals as goal

pub loop-left-init : goal.loop-left-init
loop-left-init c = attacked_way c.args.b.now c.args.s c.args.by c.men_of-left.result c.men_of-left.ensures

pub loop-left-preserved : goal.loop-left-preserved
loop-left-preserved c =
    let l = subst (λ (s : ℕ). IsLowest c.loop-left.left s) (sym c.number-from.ensures.value) c.lowest.ensures in
    some_of_rest (λ f. attacks c.args.b.now f c.args.s) c.loop-left.left c.number-from.result c.without_lowest-left.result (sym c.threatens.ensures ∙ c.if-threatens.false)
    (c.without_lowest-left.ensures.others c.number-from.result l)
    ∙ c.loop-left.invariant

pub returns-then-threatens : goal.returns-then-threatens
returns-then-threatens c =
    let l = subst (λ (s : ℕ). IsLowest c.loop-left.left s) (sym c.number-from.ensures.value) c.lowest.ensures in
    sym (some_of_found (λ f. attacks c.args.b.now f c.args.s) c.loop-left.left c.number-from.result l (sym c.threatens.ensures ∙ c.if-threatens.true))
    ∙ c.loop-left.invariant

pub returns : goal.returns
returns c = sym (some_of_zero (λ f. attacks c.args.b.now f c.args.s) c.loop-left.left (omega (arith, c.loop-left-test.false))) ∙ c.loop-left.invariant

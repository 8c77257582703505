use Rattle.std.proofs.Common.{ℕ, ◌∙◌, sym, ap, subst, arith, not}
use Rattle.krieg_board.proofs.Common.{is_between, IsLowest}
use Rattle.krieg_board.proofs.Searching.{some_of_zero, some_of_found, some_of_rest, clear_way}
use Rattle.krieg_board.proofs.threat.is_way_clear.Goals as goal

pub loop-left-init : goal.loop-left-init
loop-left-init c = clear_way c.args.b.now c.args.from c.args.to c.occupied-left.result c.occupied-left.ensures

pub loop-left-preserved : goal.loop-left-preserved
loop-left-preserved c =
    let l = subst (λ (s : ℕ). IsLowest c.loop-left.left s) (sym c.number-square.ensures.value) c.lowest.ensures in
    ap not (some_of_rest (is_between c.args.from c.args.to) c.loop-left.left c.number-square.result c.without_lowest-left.result (sym c.is_between.ensures ∙ c.if-is_between.false)
    (c.without_lowest-left.ensures.others c.number-square.result l))
    ∙ c.loop-left.invariant

pub returns-then-is_between : goal.returns-then-is_between
returns-then-is_between c =
    let l = subst (λ (s : ℕ). IsLowest c.loop-left.left s) (sym c.number-square.ensures.value) c.lowest.ensures in
    ap not (sym (some_of_found (is_between c.args.from c.args.to) c.loop-left.left c.number-square.result l (sym c.is_between.ensures ∙ c.if-is_between.true)))
    ∙ c.loop-left.invariant

pub returns : goal.returns
returns c =
    ap not (sym (some_of_zero (is_between c.args.from c.args.to) c.loop-left.left (omega (arith, c.loop-left-test.false)))) ∙ c.loop-left.invariant

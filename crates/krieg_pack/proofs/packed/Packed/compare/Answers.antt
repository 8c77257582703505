use Rattle.std.proofs.Common.{◌≡◌, ◌∙◌, sym, ap, subst, cond}
use Rattle.std.specs.declared.cmp.Ordering.TheVariants.{Less, Greater}
use Rattle.std.proofs.lemmas.Bool.{cond-true, cond-false}
use Rattle.krieg_pack.proofs.Common.{IsLowest, position_cmp}
use Rattle.krieg_pack.proofs.PackedOrder.{smaller_decides, state_decides}
use Rattle.krieg_pack.proofs.packed.Packed.compare.Goals as goal
use Rattle.krieg_pack.proofs.packed.Packed.compare.Goals.{After-has-is_smaller}

pub returns-then-differing-eq0 : goal.returns-then-differing-eq0
returns-then-differing-eq0 c =
    let d = c.differing-differing in
    c.compare_state.ensures ∙ state_decides d.result c.args.self.now c.args.other.now d.ensures.apart d.ensures.valid.squares d.ensures.other_valid.squares c.if-differing-eq0.true

whole : (c : After-has-is_smaller) → cond c.has-is_smaller.result Less Greater ≡ position_cmp c.args.self.now c.args.other.now
whole c =
    let d = c.differing-differing in
    let low = subst (IsLowest d.result) (sym c.number-first.ensures.value) c.lowest.ensures in
    ap (λ t. cond t Less Greater) (c.has-is_smaller.ensures ∙ c.smaller.ensures c.number-first.result low.below)
    ∙ smaller_decides d.result c.args.self.now c.args.other.now d.ensures.apart d.ensures.valid.squares d.ensures.other_valid.squares c.number-first.result low

pub returns-then-is_smaller : goal.returns-then-is_smaller
returns-then-is_smaller c = sym (cond-true c.has-is_smaller.result Less Greater c.if-is_smaller.true) ∙ whole c.before

pub returns-else-is_smaller : goal.returns-else-is_smaller
returns-else-is_smaller c = sym (cond-false c.has-is_smaller.result Less Greater c.if-is_smaller.false) ∙ whole c.before

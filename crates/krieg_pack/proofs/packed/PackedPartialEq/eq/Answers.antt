use Rattle.std.proofs.Common.{◌∙◌, sym, ap, arith}
use Rattle.std.specs.Ordering.{is_eq}
use Rattle.std.proofs.lemmas.Bool.{ne_eqb}
use Rattle.krieg_pack.proofs.PackedOrder.{some_decide, state_decides}
use Rattle.krieg_pack.proofs.packed.PackedPartialEq.eq.Goals as goal

pub returns-then-differing-eq0 : goal.returns-then-differing-eq0
returns-then-differing-eq0 c =
    let d = c.differing in
    c.is_eq.ensures
    ∙ ap is_eq
    (c.compare_state.ensures ∙ state_decides d.result c.args.self.now c.args.other.now d.ensures.apart d.ensures.valid.squares d.ensures.other_valid.squares c.if-differing-eq0.true)

pub returns-else-differing-eq0 : goal.returns-else-differing-eq0
returns-else-differing-eq0 c =
    let d = c.differing in
    ne_eqb d.result 0 c.if-differing-eq0.false
    ∙ sym (some_decide d.result c.args.self.now c.args.other.now d.ensures.apart d.ensures.valid.squares d.ensures.other_valid.squares (omega arith) d.type_inv)

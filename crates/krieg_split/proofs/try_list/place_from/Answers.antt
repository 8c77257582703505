use Rattle.std.proofs.Common.{◌≡◌, false, sym, subst, ◌∙◌, arith}
use Rattle.std.proofs.lemmas.Option.{slice_get_within, get_or_from_slice_get}
use Rattle.krieg_split.proofs.Common.{move_lt}
use Rattle.krieg_split.proofs.TryLists.{before_more, derived_lt}
use Rattle.krieg_split.proofs.try_list.place_from.Goals as goal

pub loop-place-preserved : goal.loop-place-preserved
loop-place-preserved c = record {
  within = omega arith;
  before = before_more c.args.found.now c.loop-place.place c.index-found-place.result c.args.mv.now c.loop-place-test.true c.index-found-place.is c.loop-place.invariant.before (sym (derived_lt c.index-found-place.result c.args.mv.now) ∙ sym c.if-lt.ensures);
}

pub returns-else-lt-clause-first : goal.returns-else-lt-clause-first
returns-else-lt-clause-first c = λ m at.
    let x = c.index-found-place.result in
    let is : x ≡ m = c.index-found-place.is ∙ get_or_from_slice_get c.args.found.now c.loop-place.place m x at in
    subst (λ y. move_lt y c.args.mv.now ≡ false) is (sym (derived_lt x c.args.mv.now) ∙ sym c.if-lt.ensures)

pub returns-after-loop-place-clause-first : goal.returns-after-loop-place-clause-first
returns-after-loop-place-clause-first c = λ m at. (let w = slice_get_within c.args.found.now c.loop-place.place m at in absurd (omega arith))

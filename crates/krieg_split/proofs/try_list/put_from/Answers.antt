use Rattle.std.proofs.Common.{◌≡◌, List, false, Some, take, ap, subst, ◌∙◌, arith}
use Rattle.std.specs.List.{slice_get}
use Rattle.std.proofs.lemmas.Bool.{both_ways}
use Rattle.krieg_split.proofs.Common.{move_lt, Move, AllBefore}
use Rattle.krieg_split.proofs.TryLists.{there, inserted}
use Rattle.krieg_split.proofs.try_list.put_from.Goals as goal

pub returns-then-stands_at : goal.returns-then-stands_at
returns-then-stands_at c = there c.args.found.now.items c.args.from c.args.mv.now c.requires.set c.requires.before (subst (λ (ns : List Move). slice_get ns c.args.from ≡ Some c.args.mv.now) c.deref.ensures.value (c.stands_at.ensures.0 c.if-stands_at.true))

pub returns-in_ok-insert : goal.returns-in_ok-insert
returns-in_ok-insert c =
    let m = c.args.mv.now in
    let at = c.place_from-place.result in
    let F = c.args.found.now.items in
    let same = c.deref-2.ensures.value in
    rw c.in_ok-insert.ensures.items (inserted F at m c.requires.set (subst (λ (ns : List Move). AllBefore (take at ns) m) same c.place_from-place.ensures.before) (omega (arith, c.place_from-place.ensures.within, c.deref-2.ensures.len)) (subst (λ (ns : List Move). (y : Move) → slice_get ns at ≡ Some y → move_lt y m ≡ false) same c.place_from-place.ensures.first) (λ e. both_ways _ c.if-not-stands_at.true (c.stands_at-2.ensures.1 (ap (λ (ns : List Move). slice_get ns at) c.deref-3.ensures.value ∙ e))))

pub returns-else-not-stands_at : goal.returns-else-not-stands_at
returns-else-not-stands_at c =
    let m = c.args.mv.now in
    let at = c.place_from-place.result in
    there c.args.found.now.items at m c.requires.set (subst (λ (ns : List Move). AllBefore (take at ns) m) c.deref-2.ensures.value c.place_from-place.ensures.before) (subst (λ (ns : List Move). slice_get ns at ≡ Some m) c.deref-3.ensures.value (c.stands_at-2.ensures.0 c.if-not-stands_at.false))

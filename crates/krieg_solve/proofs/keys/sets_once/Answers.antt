use Rattle.std.proofs.Common.{inl, [], ◌∷◌, ◌++◌, refl}
use Rattle.std.proofs.lemmas.List.{drop_all}
use Rattle.krieg_solve.proofs.Common.{Opening, numbers_of}
use Rattle.krieg_theory.proofs.Lists.{in_append_left, in_append_right, in_map}
use Rattle.krieg_search.proofs.Checking.{at_item, item_in}
use Rattle.krieg_solve.proofs.KeyRoots.{contains_is, numbers_more, numbers_all, number_put, put_only}
use Rattle.krieg_solve.proofs.keys.sets_once.Goals as goal
use Rattle.krieg_solve.proofs.keys.sets_once.Goals.{then-not-contains+in_ok-push, else-not-contains}

pub loop-o-preserved : goal.loop-o-preserved
loop-o-preserved c =
    let x = c.o-item.result in
    let os = c.args.openings.now in
    let k = c.loop-o.o-index in
    let ks = c.loop-o.sets.items in
    let at = at_item os k x c.loop-o-test.true c.o-item.is in
    let is = contains_is ks x.set c.contains.result (rw c.deref.ensures.value at c.contains.ensures.value) in
    let here = in_map (λ (o : Opening). o.set) os x (item_in os k x c.loop-o-test.true c.o-item.is) in
    elim c.if-not-contains.branch [
      | then-not-contains+in_ok-push w ↦
          let pushed = w.in_ok-push.ensures.items in
          rw (w.sets-is, pushed) (record {
            once = number_put ks x.set (is.1 w.if-not-contains.true) c.loop-o.invariant.once;
            all = numbers_more os k x ks (ks ++ x.set ∷ []) at (λ s i. in_append_left ks (x.set ∷ []) s i) (in_append_right ks (x.set ∷ []) x.set (inl refl)) c.loop-o.invariant.all;
            only = put_only ks (numbers_of os) x.set here c.loop-o.invariant.only;
          })
      | else-not-contains w ↦
          rw w.sets-is (record {
            once = c.loop-o.invariant.once;
            all = numbers_more os k x ks ks at (λ s i. i) (is.0 w.if-not-contains.false) c.loop-o.invariant.all;
            only = c.loop-o.invariant.only;
          })
    ]

pub returns-clause-all : goal.returns-clause-all
returns-clause-all c = numbers_all c.args.openings.now c.loop-o.o-index c.loop-o.sets.items (drop_all c.loop-o.o-index c.args.openings.now c.loop-o-test.false) c.loop-o.invariant.all

use Rattle.std.proofs.Common.{map, ap, sym, subst, ◌∙◌}
use Rattle.std.specs.Prelude.{All, IfSome}
use Rattle.std.proofs.lemmas.Result.{IfOk-weaker}
use Rattle.krieg_search.proofs.Common.{Wild16, AreTallies, move_of, IsTold, Counted}
use Rattle.krieg_search.proofs.Telling.{plain_moves, plain_told, counted_moves, counted_told}
use Rattle.krieg_search.proofs.try_list.tries_for.Goals as goal

pub returns-then-len-le-MOST_TALLIED-clause-moves : goal.returns-then-len-le-MOST_TALLIED-clause-moves
returns-then-len-le-MOST_TALLIED-clause-moves c =
    IfOk-weaker c.counted_tries.result _ _ (λ ts is d. ap (map move_of) (is ∙ ap (map (λ y. Counted y)) (c.deref.ensures.value ∙ c.in_ok-tally_tries.ensures d)) ∙ counted_moves c.args.b.now _) c.counted_tries.ensures

pub returns-then-len-le-MOST_TALLIED-clause-told : goal.returns-then-len-le-MOST_TALLIED-clause-told
returns-then-len-le-MOST_TALLIED-clause-told c =
    IfOk-weaker c.counted_tries.result _ _ (λ ts is. subst (All (IsTold c.args.b.now c.args.moves)) (sym (is ∙ ap (map (λ y. Counted y)) (c.deref.ensures.value ∙ c.in_ok-tally_tries.ensures Wild16))) (counted_told c.args.b.now c.args.moves _ c.if-moves-eq1.true)) c.counted_tries.ensures

pub returns-in-Some-clause-moves : goal.returns-in-Some-clause-moves
returns-in-Some-clause-moves c =
    let found : AreTallies c.args.b.now c.args.b.now c.in-Some.tallies.items = subst (λ o. IfSome o (λ ys. AreTallies c.args.b.now c.args.b.now ys.items)) c.in-Some.is c.in_ok-tallies.ensures in
    IfOk-weaker c.counted_tries-in-Some.result _ _ (λ ts is d. ap (map move_of) (is ∙ ap (map (λ y. Counted y)) (c.deref-in-Some.ensures.value ∙ found d)) ∙ counted_moves c.args.b.now _) c.counted_tries-in-Some.ensures

pub returns-in-Some-clause-told : goal.returns-in-Some-clause-told
returns-in-Some-clause-told c =
    let found : AreTallies c.args.b.now c.args.b.now c.in-Some.tallies.items = subst (λ o. IfSome o (λ ys. AreTallies c.args.b.now c.args.b.now ys.items)) c.in-Some.is c.in_ok-tallies.ensures in
    IfOk-weaker c.counted_tries-in-Some.result _ _ (λ ts is. subst (All (IsTold c.args.b.now c.args.moves)) (sym (is ∙ ap (map (λ y. Counted y)) (c.deref-in-Some.ensures.value ∙ found Wild16))) (counted_told c.args.b.now c.args.moves _ c.if-moves-eq1-2.true)) c.counted_tries-in-Some.ensures

pub returns-clause-moves : goal.returns-clause-moves
returns-clause-moves c =
    IfOk-weaker c.plain_tries.result _ _ (λ ts is d. ap (map move_of) is ∙ plain_moves c.deref-2.result.now ∙ c.deref-2.ensures.value ∙ c.in_ok-found.ensures d) c.plain_tries.ensures

pub returns-clause-told : goal.returns-clause-told
returns-clause-told c =
    IfOk-weaker c.plain_tries.result _ _ (λ ts is. subst (All (IsTold c.args.b.now c.args.moves)) (sym is) (plain_told c.args.b.now c.args.moves c.deref-2.result.now)) c.plain_tries.ensures

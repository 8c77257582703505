use Rattle.std.proofs.Common.{ap, length, arith}
use Rattle.std.specs.Vec.Iter.{into_iter_items}
use Rattle.std.proofs.lemmas.List.{nil_from_length}
use Rattle.krieg_search.proofs.Common.{opened_set}
use Rattle.krieg_search.proofs.OpenedSets.{no_opening, one_opening, all_openings}
use Rattle.krieg_search.proofs.openings.own_openings.Goals as goal

pub loop-o-init : goal.loop-o-init
loop-o-init c =
    let gives = c.into_iter-o-iterator.ensures.into_iter_gives in
    record {
      opening = no_opening opened_set c.args.table.now c.new-found.result.items (into_iter_items c.into_iter-o-iterator.result) c.args.opened.items c.requires c.new-found.ensures.items gives.0;
      counted = omega (arith, gives.1, ap length gives.0);
    }

pub add-requires-clause-numbered : goal.add-requires-clause-numbered
add-requires-clause-numbered c = c.loop-o.invariant.opening.numbered

pub add-requires-clause-counted : goal.add-requires-clause-counted
add-requires-clause-counted c = c.loop-o.invariant.opening.sets.counted

pub loop-o-preserved : goal.loop-o-preserved
loop-o-preserved c =
    let steps = c.in-Some.ensures.steps in
    let ahead = into_iter_items c.loop-o.o-iterator in
    record {
      opening = one_opening opened_set c.args.table.now c.loop-o.table c.add.new.table c.loop-o.found.items c.add.new.openings.items c.in-Some.o ahead (into_iter_items c.next.new.self) c.args.opened.items steps.0 c.loop-o.invariant.opening c.in_ok-add.ensures;
      counted = omega (arith, c.loop-o.invariant.counted, steps.1, ap length steps.0);
    }

pub returns : goal.returns
returns c =
    let ahead = into_iter_items c.loop-o.o-iterator in
    let none = nil_from_length ahead (let n = c.in-None.ensures.steps in let k = c.loop-o.invariant.counted in omega arith) in
    all_openings opened_set c.args.table.now c.loop-o.table c.loop-o.found.items ahead c.args.opened.items none c.loop-o.invariant.opening

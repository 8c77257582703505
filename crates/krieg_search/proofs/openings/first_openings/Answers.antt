use Rattle.std.proofs.Common.{ap, length, arith}
use Rattle.std.specs.Vec.Iter.{into_iter_items}
use Rattle.std.proofs.lemmas.List.{nil_from_length}
use Rattle.krieg_search.proofs.Common.{first_set}
use Rattle.krieg_search.proofs.OpenedSets.{no_opening, one_opening, all_openings}
use Rattle.krieg_search.proofs.openings.first_openings.Goals as goal

pub loop-class-init : goal.loop-class-init
loop-class-init c =
    let gives = c.into_iter-class-iterator.ensures.into_iter_gives in
    record {
      opening = no_opening first_set c.args.table.now c.new-found.result.items (into_iter_items c.into_iter-class-iterator.result) c.args.classes.items c.requires c.new-found.ensures.items gives.0;
      counted = omega (arith, gives.1, ap length gives.0);
    }

pub add-requires-clause-numbered : goal.add-requires-clause-numbered
add-requires-clause-numbered c = c.loop-class.invariant.opening.numbered

pub add-requires-clause-counted : goal.add-requires-clause-counted
add-requires-clause-counted c = c.loop-class.invariant.opening.sets.counted

pub loop-class-preserved : goal.loop-class-preserved
loop-class-preserved c =
    let steps = c.in-Some.ensures.steps in
    let ahead = into_iter_items c.loop-class.class-iterator in
    record {
      opening = one_opening first_set c.args.table.now c.loop-class.table c.add.new.table c.loop-class.found.items c.add.new.openings.items c.in-Some.class ahead (into_iter_items c.next.new.self) c.args.classes.items steps.0 c.loop-class.invariant.opening c.in_ok-add.ensures;
      counted = omega (arith, c.loop-class.invariant.counted, steps.1, ap length steps.0);
    }

pub returns : goal.returns
returns c =
    let ahead = into_iter_items c.loop-class.class-iterator in
    let none = nil_from_length ahead (let n = c.in-None.ensures.steps in let k = c.loop-class.invariant.counted in omega arith) in
    all_openings first_set c.args.table.now c.loop-class.table c.loop-class.found.items ahead c.args.classes.items none c.loop-class.invariant.opening

use Rattle.std.proofs.Common.{sym, ◌∙◌, arith}
use Rattle.std.proofs.lemmas.Bool.{eqb-true}
use Rattle.std.proofs.lemmas.Option.{slice_get_within}
use Rattle.krieg_split.proofs.TryLists.{is_set, one_added, first_moves}
use Rattle.krieg_split.proofs.try_list.add_moves.Goals as goal

pub returns-then-is_empty : goal.returns-then-is_empty
returns-then-is_empty c = c.in_ok-extend_from_slice.ensures.items ∙ first_moves c.args.found.now.items c.args.moves.now (let e = eqb-true c.args.found.now.len 0 (sym c.is_empty.ensures ∙ c.if-is_empty.true) in omega (arith, e)) c.requires.moves

pub put_from-requires-clause-set : goal.put_from-requires-clause-set
put_from-requires-clause-set c = is_set c.mv-item.result c.loop-mv-test.true c.mv-item.is c.loop-mv.invariant

pub overflow_add-place : goal.overflow_add-place
overflow_add-place c = (let w = slice_get_within c.put_from.new.found.items c.in_ok-place.field-0 c.mv-item.result c.in_ok-place.ensures.at in omega (arith, w))

pub loop-mv-preserved : goal.loop-mv-preserved
loop-mv-preserved c = one_added c.mv-item.result c.loop-mv-test.true c.mv-item.is c.loop-mv.invariant c.put_from.new.found.items c.in_ok-place.field-0 c.in_ok-place.ensures

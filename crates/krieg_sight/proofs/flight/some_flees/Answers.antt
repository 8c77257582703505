use Rattle.krieg_sight.proofs.Common.{flees}
use Rattle.krieg_sight.proofs.Looking.{some_member}
use Rattle.krieg_sight.proofs.flight.some_flees.Goals as goal

pub returns-then-is_fled_by-clause-fled : goal.returns-then-is_fled_by-clause-fled
returns-then-is_fled_by-clause-fled c = λ e. some_member (flees c.args.moves c.args.mv.now) c.args.b.now c.members-members.result.now c.first_of-first.result c.index-members-first-2.result c.members-members.ensures.value c.first_of-first.ensures c.index-members-first-2.is (c.is_fled_by.ensures.fled c.if-is_fled_by.true)

pub returns-then-is_fled_by-2-clause-fled : goal.returns-then-is_fled_by-2-clause-fled
returns-then-is_fled_by-2-clause-fled c = λ e. some_member (flees c.args.moves c.args.mv.now) c.args.b.now c.members-members.result.now c.loop-place.place c.index-members-place.result c.members-members.ensures.value c.loop-place-test.true c.index-members-place.is (c.is_fled_by-in-loop-place.ensures.fled c.if-is_fled_by-2.true)

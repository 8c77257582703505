use Rattle.std.proofs.Common.{not}
use Rattle.krieg_sight.proofs.Common.{mates_within}
use Rattle.krieg_sight.proofs.Looking.{some_member}
use Rattle.krieg_sight.proofs.flight.some_is_no_mate.Goals as goal

pub returns-then-is_no_mate-clause-none : goal.returns-then-is_no_mate-clause-none
returns-then-is_no_mate-clause-none c = λ e. some_member (λ p. not (mates_within c.args.moves p)) c.args.b.now c.members-members.result.now c.first_of-first.result c.index-members-first-2.result c.members-members.ensures.value c.first_of-first.ensures c.index-members-first-2.is (c.is_no_mate.ensures.none c.if-is_no_mate.true)

pub returns-then-is_no_mate-2-clause-none : goal.returns-then-is_no_mate-2-clause-none
returns-then-is_no_mate-2-clause-none c = λ e. some_member (λ p. not (mates_within c.args.moves p)) c.args.b.now c.members-members.result.now c.loop-place.place c.index-members-place.result c.members-members.ensures.value c.loop-place-test.true c.index-members-place.is (c.is_no_mate-in-loop-place.ensures.none c.if-is_no_mate-2.true)

use Rattle.std.proofs.Common.{◌∙◌}
use Rattle.krieg_split.proofs.Tallying.{some_room, some_tries, some_more}
use Rattle.krieg_split.proofs.large.add_members.Goals as goal

pub add_member-requires-clause-moves : goal.add_member-requires-clause-moves
add_member-requires-clause-moves c = c.as_slice.ensures ∙ c.in_ok-moves.ensures.exact

pub add_member-requires-clause-tries : goal.add_member-requires-clause-tries
add_member-requires-clause-tries c = some_tries c.unpack-position.result c.index-members-place.result c.unpack-position.ensures.value c.loop-place-test.true c.index-members-place.is c.loop-place.invariant

pub add_member-requires-clause-room : goal.add_member-requires-clause-room
add_member-requires-clause-room c = some_room c.unpack-position.result c.index-members-place.result c.unpack-position.ensures.value c.loop-place-test.true c.index-members-place.is c.loop-place.invariant c.requires.few

pub loop-place-preserved-in_ok-moves : goal.loop-place-preserved-in_ok-moves
loop-place-preserved-in_ok-moves c = some_more c.unpack-position.result c.index-members-place.result c.unpack-position.ensures.value c.loop-place-test.true c.index-members-place.is c.loop-place.invariant c.add_member.new.tallies c.requires.step.0 c.add_member.ensures

pub loop-place-preserved : goal.loop-place-preserved
loop-place-preserved c = some_more c.unpack-position.result c.index-members-place.result c.unpack-position.ensures.value c.loop-place-test.true c.index-members-place.is c.loop-place.invariant c.add_member.new.tallies c.requires.step.0 c.add_member.ensures

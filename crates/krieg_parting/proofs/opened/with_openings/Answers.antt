use Rattle.std.proofs.Common.{[], ap}
use Rattle.krieg_parting.proofs.Common.{silent, opened}
use Rattle.krieg_game.proofs.Pools.{holds_one}
use Rattle.krieg_parting.proofs.opened.with_openings.Goals as goal

pub loop-member-preserved : goal.loop-member-preserved
loop-member-preserved c =
    holds_one (opened c.args.d silent) c.add_opening.new.self c.loop-member.pool [] c.args.members.now c.loop-member.member-index c.member-item.result (opened c.args.d silent c.unpack.result) c.loop-member-test.true c.member-item.is
    (ap (opened c.args.d silent) c.unpack.ensures.value) c.in_ok-add_opening.ensures c.loop-member.invariant

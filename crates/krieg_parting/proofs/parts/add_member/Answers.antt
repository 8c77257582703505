use Rattle.std.proofs.Common.{ap, ◌∙◌}
use Rattle.krieg_parting.proofs.Common.{replies}
use Rattle.krieg_parting.proofs.Gathering.{counted}
use Rattle.krieg_parting.proofs.parts.add_member.Goals as goal

pub returns-then-not-attempt : goal.returns-then-not-attempt
returns-then-not-attempt c =
    counted c.args.attempt.now c.args.parts.now c.args.member.now c.take.result c.count_replies.result c.args.units.now c.take.new.units c.if-parts.true c.if-not-attempt.true
    (c.count_replies.ensures.value ∙ ap (replies c.args.attempt.now.mv) c.unpack-p.ensures.value) c.take.ensures

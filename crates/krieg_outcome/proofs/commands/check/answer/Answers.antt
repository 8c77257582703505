use Rattle.krieg_outcome.proofs.Checking.{one_turn}
use Rattle.krieg_outcome.proofs.commands.check.answer.Goals as goal

pub judged-requires : goal.judged-requires
judged-requires c = one_turn c.in_ok-file.file.side c.in_ok-file.file.list.items c.in_ok-file.ensures.plan.written.alike

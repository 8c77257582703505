use Rattle.krieg_outcome.proofs.Judging.{mates_in}
use Rattle.krieg_outcome.proofs.commands.judge.judged.Goals as goal

pub returns-in_ok-worst_text-in-Mates : goal.returns-in_ok-worst_text-in-Mates
returns-in_ok-worst_text-in-Mates c =
    mates_in c.args.s.now c.args.budget c.new-units.result c.judge.new.units c.in-Mates.worst c.in_ok-worst.field-0 c.in_ok-worst_text-in-Mates.field-0.items
    c.new-units.ensures c.in_ok-worst.ensures c.in-Mates.is c.in_ok-worst_text-in-Mates.ensures

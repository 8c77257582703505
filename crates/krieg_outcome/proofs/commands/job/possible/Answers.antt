use Rattle.std.proofs.Common.{subst}
use Rattle.krieg_outcome.proofs.Common.{IsStop, MOST_LISTED}
use Rattle.krieg_outcome.proofs.Jobs.{few_listed}
use Rattle.krieg_outcome.proofs.commands.job.possible.Goals as goal

pub unreachable-requires : goal.unreachable-requires
unreachable-requires c =
    few_listed c.args.sheet.now c.in-Err-TooMany.field-0-0 c.requires.new c.requires.sheet (subst (IsStop c.args.sheet.now MOST_LISTED) c.in-Err-TooMany.field-0-is c.in-Err-TooMany.ensures.stop)

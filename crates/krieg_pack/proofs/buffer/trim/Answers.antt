use Rattle.std.proofs.Common.{ap, ◌∙◌}
use Rattle.krieg_pack.proofs.Common.{set_of}
use Rattle.krieg_pack.proofs.PositionSets.{set_of_set}
use Rattle.krieg_pack.proofs.buffer.trim.Goals as goal

pub returns-then-len-limit-clause-same : goal.returns-then-len-limit-clause-same
returns-then-len-limit-clause-same c = ap set_of c.make_ascending.ensures ∙ set_of_set _

pub returns-clause-same : goal.returns-clause-same
returns-clause-same c = ap set_of c.make_ascending.ensures ∙ set_of_set _

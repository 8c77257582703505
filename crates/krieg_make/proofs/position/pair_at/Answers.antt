use Rattle.std.proofs.Common.{arith}
use Rattle.krieg_make.proofs.PairNumbers.{pair_found}
use Rattle.krieg_make.proofs.position.pair_at.Goals as goal

pub returns-clause-value : goal.returns-clause-value
returns-clause-value c = pair_found c.lower.lower c.lower.rest c.args.q c.lower.invariant.0 (omega arith) c.lower.invariant.1

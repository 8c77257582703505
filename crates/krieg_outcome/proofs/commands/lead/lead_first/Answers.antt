use Rattle.std.proofs.Common.{arith}
use Rattle.krieg_outcome.proofs.Leading.{ok_written, err_written}
use Rattle.krieg_outcome.proofs.commands.lead.lead_first.Goals as goal

pub returns-clause-led : goal.returns-clause-led
returns-clause-led g c = ok_written c.lead.result _ _ _ _ (omega arith) c.index_mut.ensures.value c.lead.ensures.led

pub returns-clause-broken : goal.returns-clause-broken
returns-clause-broken g c = err_written c.lead.result _ _ _ _ (omega arith) c.index_mut.ensures.value c.lead.ensures.broken

use Rattle.std.proofs.Common.{subst}
use Rattle.krieg_table.proofs.Common.{IsOnce, pairs, SetRows, sets, entries}
use Rattle.krieg_table.proofs.Onces.{pairs_once}
use Rattle.krieg_table.proofs.table.Table.know_once.Goals as goal

pub returns-clause-sets : goal.returns-clause-sets
returns-clause-sets c = subst (λ (T : SetRows). IsOnce (sets T)) c.self.view_is c.self.invariant.once

pub returns-clause-results : goal.returns-clause-results
returns-clause-results c = subst (λ (T : SetRows). IsOnce (pairs (entries T))) c.self.view_is (pairs_once c.self.inside.rows.entries c.self.invariant.once c.self.invariant.results)

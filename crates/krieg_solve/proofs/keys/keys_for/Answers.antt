use Rattle.krieg_search.proofs.Checking.{item_in}
use Rattle.krieg_solve.proofs.keys.keys_for.Goals as goal

pub returns-then-keys-set-clause-there : goal.returns-then-keys-set-clause-there
returns-then-keys-set-clause-there c = item_in c.args.found.now c.loop-keys.keys-index c.keys-item.result c.loop-keys-test.true c.keys-item.is

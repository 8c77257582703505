use Rattle.krieg_search.proofs.Accounting.{account_is_between}
use Rattle.krieg_search.proofs.laws.account_is_between.Goals as goal

pub returns : goal.returns
returns c = account_is_between

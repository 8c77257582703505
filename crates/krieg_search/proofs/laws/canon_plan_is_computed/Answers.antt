use Rattle.krieg_search.proofs.ChessLaws.{canon_plan_is_computed}
use Rattle.krieg_search.proofs.laws.canon_plan_is_computed.Goals as goal

pub returns : goal.returns
returns c = canon_plan_is_computed

use Rattle.krieg_search.proofs.ChessLaws.{reach_is_least}
use Rattle.krieg_search.proofs.laws.reach_is_least.Goals as goal

pub returns : goal.returns
returns c = reach_is_least

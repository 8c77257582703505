use Rattle.krieg_search.proofs.Telling.{same_move}
use Rattle.krieg_search.proofs.try_list.is_same.Goals as goal

pub returns : goal.returns
returns c = same_move c.args.a.now c.args.b.now c.eq.result c.eq.ensures

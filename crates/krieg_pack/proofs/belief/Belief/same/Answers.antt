use Rattle.krieg_pack.proofs.PositionSets.{same_list}
use Rattle.krieg_pack.proofs.belief.Belief.same.Goals as goal

pub returns : goal.returns
returns c = same_list c.args.self.now c.args.other.now c.eq.result c.eq.ensures

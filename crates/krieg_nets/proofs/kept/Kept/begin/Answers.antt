use Rattle.krieg_nets.specs.contracts.others.OthersPartialEq.TheImpl as equal
use Rattle.krieg_nets.proofs.Keeping.{row_begun}
use Rattle.krieg_nets.proofs.kept.Kept.begin.Goals as goal

pub invariant_of-self : goal.invariant_of-self
invariant_of-self c =
    row_begun (equal.ghosts).eq c.self.inside.rows.keys c.insert.new.self.keys c.self.inside.levels.items c.args.others.now c.in-Ok.ensures.keys c.self.invariant

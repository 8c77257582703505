use Rattle.krieg_pack.proofs.Unpacking.{stand}
use Rattle.krieg_pack.proofs.MenSets.{men_exact, men_board}
use Rattle.krieg_pack.proofs.packed.Packed.sets.Goals as goal

pub returns-clause-exact : goal.returns-clause-exact
returns-clause-exact c =
    let s = stand c.self.inside c.args.self.now c.self.invariant c.self.view_is in
    men_exact c.self.inside c.args.self.now.board s.coded s.narrow s.size

pub returns-clause-board : goal.returns-clause-board
returns-clause-board c =
    let s = stand c.self.inside c.args.self.now c.self.invariant c.self.view_is in
    men_board c.self.inside c.args.self.now.board s.coded s.narrow s.size

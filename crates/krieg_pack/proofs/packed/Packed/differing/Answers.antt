use Rattle.krieg_pack.proofs.Unpacking.{stand}
use Rattle.krieg_pack.proofs.CodePairs.{fields_apart}
use Rattle.krieg_pack.proofs.packed.Packed.differing.Goals as goal

pub returns-clause-apart : goal.returns-clause-apart
returns-clause-apart c =
    fields_apart c.self.inside c.other.inside c.args.self.now c.args.other.now
    (stand c.self.inside c.args.self.now c.self.invariant c.self.view_is).coded
    (stand c.other.inside c.args.other.now c.other.invariant c.other.view_is).coded

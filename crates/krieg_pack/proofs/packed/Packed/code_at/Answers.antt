use Rattle.std.proofs.Common.{◌+◌, ◌*◌, ◌∙◌}
use Rattle.krieg_pack.proofs.Unpacking.{stand, coded_at}
use Rattle.krieg_pack.proofs.packed.Packed.code_at.Goals as goal

pub returns-clause-value : goal.returns-clause-value
returns-clause-value c =
    (λ i. c.bit.ensures i + 2 * c.bit-2.ensures i + 4 * c.bit-3.ensures i + 8 * c.bit-4.ensures i)
    ∙ coded_at c.self.inside c.args.self.now.board (stand c.self.inside c.args.self.now c.self.invariant c.self.view_is).coded c.args.s c.requires

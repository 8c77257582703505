use Rattle.std.proofs.Common.{◌∙◌}
use Rattle.std.proofs.lemmas.Nat.Bits.{shr_and_one, bit_at-lt}
use Rattle.std.specs.Int.{bit_at}
use Rattle.krieg_pack.proofs.Common.{has}
use Rattle.krieg_pack.proofs.CodeBits.{by_test}
use Rattle.krieg_pack.proofs.planes.bit.Goals as goal

pub returns : goal.returns
unfolding has
returns c = shr_and_one c.args.set c.args.s ∙ by_test (bit_at c.args.set c.args.s) (bit_at-lt c.args.set c.args.s)

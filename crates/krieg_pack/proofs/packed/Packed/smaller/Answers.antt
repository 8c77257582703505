use Rattle.krieg_pack.proofs.Unpacking.{stand}
use Rattle.krieg_pack.proofs.CodePairs.{fields_smaller}
use Rattle.krieg_pack.proofs.packed.Packed.smaller.Goals as goal

pub returns : goal.returns
returns c =
    let s = stand c.self.inside c.args.self.now c.self.invariant c.self.view_is in
    let t = stand c.other.inside c.args.other.now c.other.invariant c.other.view_is in
    λ k h.
    fields_smaller c.self.inside c.other.inside c.args.self.now c.args.other.now k _ _ _ s.coded t.coded s.narrow h
    (c.either-by_two.ensures k h) (c.either-by_four.ensures k h) (c.either.ensures k h)

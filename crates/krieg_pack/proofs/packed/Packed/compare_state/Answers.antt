use Rattle.std.proofs.Common.{◌≡◌, ◌∙◌}
use Rattle.std.specs.Ordering.{nat_cmp, ordering_then}
use Rattle.krieg_pack.proofs.Unpacking.{stand}
use Rattle.krieg_pack.proofs.PackedOrder.{state_cmp}
use Rattle.krieg_pack.proofs.packed.Packed.compare_state.Goals as goal

pub returns : goal.returns
returns c =
    let a = c.self.inside in
    let b = c.other.inside in
    let chain : c.then.result ≡ ordering_then (nat_cmp a.rights b.rights) (ordering_then (nat_cmp a.mark b.mark) (nat_cmp a.side b.side)) = cc in
    chain ∙ state_cmp a b c.args.self.now c.args.other.now (stand a c.args.self.now c.self.invariant c.self.view_is) (stand b c.args.other.now c.other.invariant c.other.view_is)

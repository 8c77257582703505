use Rattle.std.proofs.Common.{rules, ℕ}
use Rattle.krieg_strategyfile.proofs.Common.{IsToldRoot, RootKey, root_of}
use Rattle.krieg_strategyfile.proofs.WrittenNodes.{made_at}
use Rattle.krieg_strategyfile.proofs.writing.put_each_root.Goals as goal

pub put_root-requires : goal.put_root-requires
put_root-requires c = made_at (λ (r : RootKey × ℕ). IsToldRoot c.args.d r.0) root_of c.args.roots.now c.loop-r.r-index c.r-item.result (search rules) (search rules) c.requires

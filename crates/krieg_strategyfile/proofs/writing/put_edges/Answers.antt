use Rattle.std.proofs.Common.{rules, ℕ}
use Rattle.krieg_strategyfile.proofs.Common.{IsToldKey, Key, edge_of}
use Rattle.krieg_strategyfile.proofs.WrittenNodes.{made_at}
use Rattle.krieg_strategyfile.proofs.writing.put_edges.Goals as goal

pub put_edge-requires : goal.put_edge-requires
put_edge-requires c = made_at (λ (e : Key × ℕ). IsToldKey c.args.d e.0) edge_of c.args.edges.now c.loop-e.e-index c.e-item.result (search rules) (search rules) c.requires

use Rattle.std.proofs.Common.{◌≡◌, [], map, refl, ap, sym, ◌∙◌, arith, vec_len}
use Rattle.krieg_checker.proofs.Common.{Try, NoEdges, made, chess, edges_in, tree_of, edge_of, as_edges, out-Node, IsNodeTry, IsEnd, try_in}
use Rattle.krieg_plan.proofs.NodeTrees.{other_of, tree_out}
use Rattle.krieg_parting.proofs.Charges.{said}
use Rattle.krieg_checker.proofs.Ending.{none_there, ends_here, end_costs}
use Rattle.krieg_checker.proofs.Walking.{parts_are, parted_at}
use Rattle.krieg_checker.proofs.node_try.try_node.Goals as goal

pub returns-then-is_empty : goal.returns-then-is_empty
returns-then-is_empty c =
    let n = c.args.n.now in
    let items : (out-Node n).edges.items ≡ [] = none_there (out-Node n).edges.items (vec_len (out-Node n).edges) (out-Node n).edges.ok.0 (sym c.is_empty.ensures ∙ c.if-is_empty.true) in
    let none : edges_in (tree_of n) ≡ NoEdges = ap edges_in (tree_out n) ∙ ap (λ es. as_edges (map edge_of es)) items in
    let is : tree_of n ≡ Try (out-Node n).mv (other_of (out-Node n)) NoEdges = parts_are n ∙ ap (Try (out-Node n).mv (other_of (out-Node n))) none in
    said c.end.result (IsEnd c.args.d c.args.b (out-Node n).mv) (IsNodeTry c.args.d (tree_of n) c.args.b) (made (chess c.args.d) c.args.b (out-Node n).mv) (made (chess c.args.d) c.args.b (try_in (tree_of n))) c.args.units.now c.end.new.units
    (ends_here c.args.d (tree_of n) (out-Node n).mv (other_of (out-Node n)) is c.args.b) (end_costs c.args.d (tree_of n) (out-Node n).mv (other_of (out-Node n)) is c.args.b) c.end.ensures

pub returns : goal.returns
returns c =
    let n = c.args.n.now in
    let p = c.in_ok-refused.ensures in (
      parted_at c.args.d (tree_of n) (out-Node n).mv (other_of (out-Node n)) (edges_in (tree_of n)) (parts_are n) c.args.b c.in_ok-refused.field-0 p.0 _ refl refl refl,
      omega (arith, p.1, ap (λ x. made (chess c.args.d) c.args.b (try_in x)) (parts_are n)),
    )

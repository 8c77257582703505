use Rattle.std.proofs.Common.{ap, map, arith}
use Rattle.std.specs.Prelude.{option_map}
use Rattle.krieg_plan.proofs.Common.{size, size_other, size_edges, tree_of, edge_of, as_other, as_edges}
use Rattle.krieg_plan.proofs.NodeTrees.{tree_out}
use Rattle.krieg_plan.proofs.size.+counting.Goals as goal

pub left_after-nodes-preserved : goal.left_after-nodes-preserved
left_after-nodes-preserved t c = record {
  counted =
      omega (
        arith,
        c.nodes.invariant.counted,
        ap size (tree_out c.nodes.here.now),
        c.in_ok-left.ensures,
        ap (λ es. size_edges (as_edges (map edge_of es))) c.deref.ensures.value,
        ap (λ o. size_other (as_other (option_map (λ b. tree_of b.value) o))) c.in-Some.is,
        ap (λ n. size (tree_of n)) c.deref-here.ensures,
      );
  within = omega (arith, c.nodes.invariant.within, c.in_ok-left.ensures);
}

pub left_after-returns-in-None : goal.left_after-returns-in-None
left_after-returns-in-None t c =
    omega (
      arith,
      c.nodes.invariant.counted,
      ap size (tree_out c.nodes.here.now),
      c.in_ok-left.ensures,
      ap (λ es. size_edges (as_edges (map edge_of es))) c.deref.ensures.value,
      ap (λ o. size_other (as_other (option_map (λ b. tree_of b.value) o))) c.in-None.is,
    )

pub left_after-returns-in_err-left : goal.left_after-returns-in_err-left
left_after-returns-in_err-left t c =
    rw c.from_residual.ensures
    (omega (
      arith,
      c.nodes.invariant.counted,
      ap size (tree_out c.nodes.here.now),
      c.in_err-left.ensures,
      ap (λ es. size_edges (as_edges (map edge_of es))) c.deref.ensures.value,
    ))

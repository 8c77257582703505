use Rattle.std.proofs.Common.{◌+◌, sym, ap, ◌∙◌}
use Rattle.std.specs.Prelude.{option_map}
use Rattle.krieg_plan.proofs.Common.{size_other, Key, NodeTree, tree_of, as_other}
use Rattle.krieg_plan.proofs.NodeTrees.{edge_rolled}
use Rattle.krieg_plan.proofs.Dropping.{nodes_below, below_more}
use Rattle.krieg_plan.proofs.node.put_back.Goals as goal

pub returns-in-Some : goal.returns-in-Some
returns-in-Some c =
    below_more _ _ _ c.in-Some.node.value c.push_reserved.ensures.items (ap (λ (x : Key × NodeTree). x.1) (edge_rolled _))
    ∙ ap (λ o. nodes_below c.args.edges.now.items + size_other (as_other (option_map (λ b. tree_of b.value) o))) (sym c.in-Some.is)

use Rattle.std.proofs.Common.{◌+◌, ◌++◌, refl, sym, ap, ◌∙◌}
use Rattle.std.specs.Prelude.{option_map}
use Rattle.std.specs.Option.{option_to_list}
use Rattle.krieg_plan.proofs.Common.{size_other, Key, NodeTree, tree_of, as_other}
use Rattle.krieg_plan.proofs.NodeTrees.{edge_out}
use Rattle.krieg_plan.proofs.Dropping.{nodes_below, lighter}
use Rattle.krieg_plan.proofs.node.Node.drop.Goals as goal

pub loop-last-smaller-in-Some : goal.loop-last-smaller-in-Some
loop-last-smaller-in-Some c =
    lighter c.loop-last.self c.deref_mut.result.now c.in-Some.last c.pop.new.self.items _ _
    (c.pop.ensures.items ∙ ap (λ o. c.pop.new.self.items ++ option_to_list o) c.in-Some.is)
    (ap (λ (x : Key × NodeTree). x.1) (edge_out c.in-Some.last) ∙ ap tree_of (sym c.deref_mut.ensures.value))
    (ap (λ o. as_other (option_map (λ b. tree_of b.value) o)) c.replace-below.ensures.after)
    refl
    refl
    (c.put_back.ensures ∙ ap (λ o. nodes_below c.pop.new.self.items + size_other (as_other (option_map (λ b. tree_of b.value) o))) c.replace-below.ensures.value)

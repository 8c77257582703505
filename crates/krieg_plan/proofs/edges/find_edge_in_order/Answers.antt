use Rattle.std.proofs.Common.{sym, ap, ◌∙◌, rules}
use Rattle.std.specs.Prelude.{Ok, Err, slice_index_or}
use Rattle.std.proofs.lemmas.Fn.{always_returns_same}
use Rattle.krieg_plan.proofs.Common.{Just, Key, key_cmp, NodeTree, tree_of, edge_of}
use Rattle.krieg_plan.proofs.NodeTrees.{edge_out}
use Rattle.krieg_plan.proofs.OrderedTrees.{found_edge_ordered}
use Rattle.krieg_plan.proofs.Lookups.{edge_found}
use Rattle.krieg_plan.proofs.edges.find_edge_in_order.Goals as goal

pub returns-in-Ok-clause-found : goal.returns-in-Ok-clause-found
returns-in-Ok-clause-found c =
    edge_found c.args.n.now c.deref.result.now (c.args.own, c.args.reply) c.deref.ensures.value c.requires (Ok c.in-Ok.place) c.in-Ok.ensures.bound
    (c.in-Ok.ensures.position (λ e. key_cmp (edge_of e).0 (c.args.own, c.args.reply)) (always_returns_same _ _ _ (λ a r g h. search rules))) c.index.result.now
    ∙ ap (λ e. Just (edge_of e).1) (ap (λ es. slice_index_or es c.in-Ok.place c.index.result.now) c.deref.ensures.value ∙ sym c.index.ensures)
    ∙ ap (λ (x : Key × NodeTree). Just x.1) (edge_out c.index.result.now)
    ∙ ap (λ n. Just (tree_of n)) (sym c.deref-in-Ok.ensures)

pub returns-in-Err-clause-found : goal.returns-in-Err-clause-found
returns-in-Err-clause-found c =
    edge_found c.args.n.now c.deref.result.now (c.args.own, c.args.reply) c.deref.ensures.value c.requires (Err c.in-Err.field-0) c.in-Err.ensures.bound
    (c.in-Err.ensures.position (λ e. key_cmp (edge_of e).0 (c.args.own, c.args.reply)) (always_returns_same _ _ _ (λ a r g h. search rules)))

pub returns-in-Ok-clause-ordered : goal.returns-in-Ok-clause-ordered
returns-in-Ok-clause-ordered c =
    found_edge_ordered (tree_of c.args.n.now) (tree_of c.deref-in-Ok.result.now) (c.args.own, c.args.reply) c.requires (returns-in-Ok-clause-found c)

use Rattle.std.proofs.Common.{length, ap, ◌∙◌, arith}
use Rattle.std.specs.Prelude.{slice_range}
use Rattle.krieg_strategy.proofs.Arenas.{range_at, node_at, below_at, order_at}
use Rattle.krieg_strategy.proofs.nodes.Nodes.get.Goals as goal

pub edges_of-requires-clause-ordered : goal.edges_of-requires-clause-ordered
edges_of-requires-clause-ordered c =
    (range_at c.self.inside.edges.items c.self.inside.slots.items c.self.invariant c.args.self.now c.self.view_is c.args.number c.requires c.index.result.now c.index.ensures).0

pub edges_of-requires-clause-within : goal.edges_of-requires-clause-within
edges_of-requires-clause-within c =
    let r = range_at c.self.inside.edges.items c.self.inside.slots.items c.self.invariant c.args.self.now c.self.view_is c.args.number c.requires c.index.result.now c.index.ensures in
    omega (arith, r.1, ap (λ xs. length xs) c.deref.ensures.value)

pub returns-clause-value : goal.returns-clause-value
returns-clause-value c =
    node_at c.self.inside.edges.items c.self.inside.slots.items c.self.invariant c.args.self.now c.self.view_is c.args.number c.requires c.index.result.now c.index.ensures c.edges_of.result.now
    (c.edges_of.ensures ∙ ap (λ es. slice_range es c.index.result.now.from c.index.result.now.to) c.deref.ensures.value)

pub returns-clause-below : goal.returns-clause-below
returns-clause-below c =
    below_at c.self.inside.edges.items c.self.inside.slots.items c.self.invariant c.args.self.now c.self.view_is c.args.number c.requires c.index.result.now c.index.ensures c.edges_of.result.now
    (c.edges_of.ensures ∙ ap (λ es. slice_range es c.index.result.now.from c.index.result.now.to) c.deref.ensures.value)

pub returns-clause-order : goal.returns-clause-order
returns-clause-order c =
    order_at c.self.inside.edges.items c.self.inside.slots.items c.self.invariant c.args.self.now c.self.view_is c.args.number c.requires c.index.result.now c.index.ensures c.edges_of.result.now
    (c.edges_of.ensures ∙ ap (λ es. slice_range es c.index.result.now.from c.index.result.now.to) c.deref.ensures.value)

use Rattle.std.proofs.Common.{rules}
use Rattle.krieg_strategy.proofs.Arenas.{pushed}
use Rattle.krieg_strategy.proofs.nodes.Nodes.push.Goals as goal

pub invariant_of-self-2 : goal.invariant_of-self-2
invariant_of-self-2 c =
    (pushed c.self.inside.edges.items c.self.inside.slots.items c.self.invariant c.args.node.edges.now (record { mv = c.args.node.mv; no = c.args.node.no; from = c.len-from.result; to = c.len-to.result }) (search rules) (search rules)
    c.args.self.now c.self.view_is c.extend_from_slice.new.self.items c.push.new.self.items (search rules) (search rules) c.requires.room c.requires.few c.requires.below c.requires.order).0

pub returns : goal.returns
returns c =
    (pushed c.self.inside.edges.items c.self.inside.slots.items c.self.invariant c.args.node.edges.now (record { mv = c.args.node.mv; no = c.args.node.no; from = c.len-from.result; to = c.len-to.result }) (search rules) (search rules)
    c.args.self.now c.self.view_is c.extend_from_slice.new.self.items c.push.new.self.items (search rules) (search rules) c.requires.room c.requires.few c.requires.below c.requires.order).1

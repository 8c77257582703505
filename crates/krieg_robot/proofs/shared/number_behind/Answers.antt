use Rattle.krieg_robot.proofs.Common.{node_at}
use Rattle.krieg_robot.proofs.Numbered.{root_there, root_leads, no_leads, edge_there, edge_leads}
use Rattle.krieg_robot.proofs.shared.number_behind.Goals as goal

pub returns-in-From-default-clause-there : goal.returns-in-From-default-clause-there
returns-in-From-default-clause-there c =
    root_there c.args.strategy.now c.in-From-default.opens c.in-From-default.heard c.find_root_to.result (rw c.deref.ensures.value at c.find_root_to.ensures)

pub returns-in-From-default-clause-leads : goal.returns-in-From-default-clause-leads
returns-in-From-default-clause-leads c =
    rw c.in-From-default.is-0 (root_leads c.args.strategy.now (node_at c.args.strategy.now c.args.number) c.in-From-default.opens c.in-From-default.heard c.find_root_to.result (rw c.deref.ensures.value at c.find_root_to.ensures))

pub returns-in-No-Some-clause-leads : goal.returns-in-No-Some-clause-leads
returns-in-No-Some-clause-leads c = rw (c.in-No-Some.is-0, c.in-No-Some.is-1) (no_leads c.args.strategy.now c.in-No-Some.number _ c.get.ensures.value)

pub returns-in-On-Some-clause-there : goal.returns-in-On-Some-clause-there
returns-in-On-Some-clause-there c =
    edge_there c.args.strategy.now c.in-On-Some.number _ (rw c.in-On-Some.is-1 at c.requires) c.get-in-On-Some.ensures.below
    c.in-On-Some.own c.in-On-Some.reply c.find_edge_to.result c.find_edge_to.ensures

pub returns-in-On-Some-clause-leads : goal.returns-in-On-Some-clause-leads
returns-in-On-Some-clause-leads c =
    rw (c.in-On-Some.is-0, c.in-On-Some.is-1)
    (edge_leads c.args.strategy.now c.in-On-Some.number _ (rw c.in-On-Some.is-1 at c.requires) c.get-in-On-Some.ensures.below
    c.in-On-Some.own c.in-On-Some.reply c.find_edge_to.result c.find_edge_to.ensures c.get-in-On-Some.ensures.value)

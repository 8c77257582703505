use Rattle.std.proofs.Common.{rules, ◌≡◌, false, arith}
use Rattle.krieg_judge.proofs.Common.{is_legal, node_of}
use Rattle.krieg_judge.proofs.NodesMet.{illegal_adds, illegal_cost}
use Rattle.krieg_judge.proofs.meeting.meet.Goals as goal

pub returns : goal.returns
returns c =
    let n = node_of c.args.at.now.node in
    let illegal : is_legal c.args.p.now n.mv ≡ false = search rules in (
      illegal_adds c.args.at.now.dialect n c.args.at.now.done c.args.p.now c.pack.result c.args.found.now c.lead.new.self illegal c.pack.ensures.value c.in_ok-lead.ensures,
      omega (arith, illegal_cost c.args.at.now.dialect n c.args.p.now illegal, c.in_ok-take.ensures.1),
    )

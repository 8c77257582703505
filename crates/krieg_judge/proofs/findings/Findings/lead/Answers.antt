use Rattle.krieg_judge.proofs.Waiting.{lead_some, lead_none}
use Rattle.krieg_judge.proofs.findings.Findings.lead.Goals as goal

pub returns-in_ok-put-in-Some : goal.returns-in_ok-put-in-Some
returns-in_ok-put-in-Some c = lead_some c.args.to c.in-Some.node c.args.position c.args.done c.args.self.now c.put.new.self c.in-Some.is c.in_ok-put-in-Some.ensures

pub returns-in-None : goal.returns-in-None
returns-in-None c = lead_none c.args.to c.args.position c.args.done c.args.self.now c.ask.new.self c.in-None.is c.ask.ensures

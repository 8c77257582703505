use Rattle.krieg_planfile.proofs.Common.{lines, heard_state_of}
use Rattle.krieg_planfile.proofs.HeardSpellings.{heard_plan_reading}
use Rattle.krieg_planfile.proofs.heard.read_heard_plan.Goals as goal

pub returns-clause-reading : goal.returns-clause-reading
returns-clause-reading c = heard_plan_reading (λ h. heard_state_of h) c.read_lines.result (lines c.args.text.now) c.read_lines.ensures

use Rattle.krieg_planfile.proofs.Common.{state_of}
use Rattle.krieg_planfile.proofs.PlansAgain.{text_spells, plan_again}
use Rattle.krieg_planfile.proofs.PlanSizes.{text_short}
use Rattle.krieg_planfile.proofs.plan_writing.write_plan.Goals as goal

pub returns-clause-spelled : goal.returns-clause-spelled
returns-clause-spelled c = text_spells (state_of c.args.f.now) c.requires

pub returns-clause-again : goal.returns-clause-again
returns-clause-again c = plan_again (state_of c.args.f.now) c.requires c.know_ordered.ensures

pub returns-clause-short : goal.returns-clause-short
returns-clause-short c = text_short (state_of c.args.f.now) c.requires

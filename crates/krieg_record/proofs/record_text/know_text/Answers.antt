use Rattle.krieg_record.proofs.Common.{state_of}
use Rattle.krieg_record.proofs.RecordTexts.{spells_by, again_by}
use Rattle.krieg_record.proofs.record_text.know_text.Goals as goal

pub returns-clause-spelled : goal.returns-clause-spelled
returns-clause-spelled c = spells_by (state_of c.args.r.now) c.know_valid.ensures c.requires

pub returns-clause-again : goal.returns-clause-again
returns-clause-again c = again_by (state_of c.args.r.now) c.know_valid.ensures c.requires

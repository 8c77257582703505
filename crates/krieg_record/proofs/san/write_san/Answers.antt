use Rattle.krieg_record.proofs.Sans.{san_only}
use Rattle.krieg_record.proofs.san.write_san.Goals as goal

pub returns-clause-only : goal.returns-clause-only
returns-clause-only c = san_only c.args.p.now c.args.mv c.requires

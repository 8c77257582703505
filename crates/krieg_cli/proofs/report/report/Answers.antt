use Rattle.krieg_cli.proofs.Reports.{reports}
use Rattle.krieg_cli.proofs.Common.{stream}
use Rattle.krieg_cli.proofs.report.report.Goals as goal

pub returns-in_default : goal.returns-in_default
returns-in_default g c =
    let seen = stream g.E.Sink.got g.E.Sink.faults in
    reports c.write_line.result c.args.ending.now (seen c.args.err.now) (seen c.write_line.new.err) c.in_default.not-Answered
    c.write_line.ensures.all c.write_line.ensures.kept c.write_line.ensures.part c.write_line.ensures.fault

use Rattle.krieg_wordtext.proofs.ToldLines.{told_line_fits}
use Rattle.krieg_wordtext.proofs.line.told_line.Goals as goal

pub returns-clause-value : goal.returns-clause-value
returns-clause-value c = c.line_told.ensures

pub returns-clause-fits : goal.returns-clause-fits
returns-clause-fits c = rw c.line_told.ensures (told_line_fits c.args.d c.args.l)

use Rattle.krieg_words.proofs.ToldLaws.{told_fits}
use Rattle.krieg_words.proofs.told_words.told.Goals as goal

pub returns-clause-value : goal.returns-clause-value
returns-clause-value c = c.words_told.ensures

pub returns-clause-fits : goal.returns-clause-fits
returns-clause-fits c = rw c.words_told.ensures (told_fits c.args.d c.args.w)

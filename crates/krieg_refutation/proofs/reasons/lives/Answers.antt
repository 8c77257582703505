use Rattle.std.proofs.Common.{◌∙◌, rules}
use Rattle.krieg_refutation.proofs.Holding.{lives_stale, lives_heard, empty_is}
use Rattle.krieg_refutation.proofs.reasons.lives.Goals as goal

pub returns-then-parted : goal.returns-then-parted
returns-then-parted c = λ d B t q. lives_stale d B t c.args.parted.now q c.if-parted.true

pub returns-else-parted : goal.returns-else-parted
returns-else-parted c = λ d B t q. lives_heard d B t c.args.parted.now q c.is_empty.result c.if-parted.false (c.is_empty.ensures ∙ empty_is c.args.parted.now.classes.items _ (search rules))

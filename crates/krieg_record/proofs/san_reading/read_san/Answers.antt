use Rattle.std.proofs.Common.{sym, subst}
use Rattle.krieg_record.proofs.Common.{Means}
use Rattle.krieg_record.proofs.Meanings.{meant_means}
use Rattle.krieg_record.proofs.san_reading.read_san.Goals as goal

pub returns-clause-means : goal.returns-clause-means
returns-clause-means c = subst (Means c.args.p.now c.args.text.now) (sym c.meant.ensures) (meant_means c.args.p.now c.args.text.now)

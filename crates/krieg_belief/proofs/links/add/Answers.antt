use Rattle.std.proofs.Common.{sym, ◌∙◌}
use Rattle.krieg_belief.proofs.Adding.{inserted}
use Rattle.krieg_belief.proofs.links.add.Goals as goal

pub returns-clause-entries : goal.returns-clause-entries
returns-clause-entries c = inserted c.args.tales.now.entries c.args.p.now c.pack-k.result c.insert.new.self.entries c.args.number c.pack-k.ensures.value (sym c.contains_key.ensures ∙ c.if-contains_key.false) (c.in_ok-insert.ensures.entries)

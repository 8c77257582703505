use Rattle.krieg_sight.proofs.Telling.{kept_right}
use Rattle.krieg_sight.proofs.memo.Sight.keep.Goals as goal

pub invariant_of-self : goal.invariant_of-self
invariant_of-self c = kept_right c.insert.result c.args.p.now c.self.inside.told.entries c.insert.new.self.entries c.args.told c.insert.ensures.entries c.insert.ensures.err c.self.invariant c.requires

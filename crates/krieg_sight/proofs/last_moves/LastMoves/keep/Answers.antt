use Rattle.krieg_sight.proofs.Telling.{kept_right}
use Rattle.krieg_sight.proofs.last_moves.LastMoves.keep.Goals as goal

pub invariant_of-self : goal.invariant_of-self
invariant_of-self c = kept_right c.insert.result c.args.p.now c.self.inside.told.entries c.insert.new.self.entries c.told_of_last.result c.insert.ensures.entries c.insert.ensures.err c.self.invariant (c.told_of_last.ensures c.args.p.now c.requires)

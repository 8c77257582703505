use Rattle.std.proofs.Common.{sym}
use Rattle.krieg_sight.proofs.Telling.{found_right}
use Rattle.krieg_sight.proofs.memo.Sight.of.Goals as goal

pub returns-in-Some : goal.returns-in-Some
returns-in-Some c = found_right c.args.p.now c.self.inside.told.entries c.in-Some.told.now c.self.invariant (sym c.in-Some.ensures.value)
